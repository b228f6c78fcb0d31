-- the lines of a group: on a branch without an heir nobody becomes active, and no link gives it one
use Rattle.std.specs.Prelude.{◌≡◌, ◌∷◌, ◌&&◌, ◌||◌, ◌==◌, ◌⊎◌, if◌then◌else◌, false}
use Rattle.std.specs.List.{list_any}
use Rattle.transcript_law.proofs.Words.{ℕ, Bool, true, List, [], refl, ap, sym, ◌∙◌, subst, inl, inr, ⊎_elim, eqb-true, eqb-false, ne_eqb, Option, Some, None, Chronicle, Event, Granted, Role, StreamName, after_line, after_lines, after_role, stream_branch}
use Rattle.transcript_law.proofs.heirless.Barren.{Barren, IsOffering, Less, TurnFits, TurnsFit, active_barren, adopt_barren, barren_less, branch_barren, ceded_before, changed_less, end_less, go_less, less_tables, other_role, pending_barren, quiet, same_stream, state_barren}
use Rattle.transcript_law.proofs.invariant.Trees.{IsTold, is_told_grow}
use Rattle.transcript_law.proofs.lines.Takeovers.{line_takeovers}
use Rattle.transcript_law.proofs.noted.{Freed.{DialsDiffer, LineFits, LinesFit, differ_less}, FreedGroups.{line_dials, ruled}}
use Rattle.transcript_law.specs.{Clients.{Heard}, Heirs.{LawfulRole}, Lawfulness.{LawfulLine, LinesFrom}}
use Rattle.transcript_law.specs.LinesTold.{TakeoverKnown, after_end, after_state, is_feed_of, is_name, is_stream_of}
use Rattle.transcript_law.specs.Chronicles.{Conns}
use Rattle.transcript_law.specs.TakeoverNotes.{is_grant_of}
use Rattle.vb_types.specs.declared.stream.AskAnswer.TheVariants as ask_answer

-- a link's stream is steady as the group begins; or one of the lines of the group let it continue, and none of those that come
abbrev pub Steady : (ℕ → TakeoverKnown) → List Event → List Event → ℕ → Type 0
Steady known all behind l = ((known l).turned ≡ false) ⊎ ((list_any (is_grant_of l) all ≡ true) × (list_any (is_grant_of l) behind ≡ false))

module _ (known : ℕ → TakeoverKnown) (all : List Event) (u : ℕ) where
  -- what is let continue had no state
  go_barren : (r : Chronicle) (k n v : ℕ) (ask : _) (high : ℕ) (log : _) (behind : List Event) → r.stated_of k ≡ None → Barren (Steady known all (Event.Asked (StreamName.Link k) n v ask high log ask_answer.Go ∷ behind)) u r
      → Barren (Steady known all behind) u (after_line r (Event.Asked (StreamName.Link k) n v ask high log ask_answer.Go))
  go_barren r k n v ask high log behind none b = record {
    told = b.told;
    none_acts = b.none_acts;
    none_offered = offered;
    none_ceded = λ l g c e. (let (f, was, same) = ceded_before u r after less l g c in b.none_ceded l f was (same ∙ e));
  }
    where
      line : Event
      line = Event.Asked (StreamName.Link k) n v ask high log ask_answer.Go

      after : Chronicle
      after = after_line r (Event.Asked (StreamName.Link k) n v ask high log ask_answer.Go)

      less : Less u r (after_line r (Event.Asked (StreamName.Link k) n v ask high log ask_answer.Go))
      less = go_less u r k v _ none

      offered : (l : ℕ) (g : Granted) → Steady known all behind l → IsOffering (after_line r (Event.Asked (StreamName.Link k) n v ask high log ask_answer.Go)) l g → stream_branch g ≡ u → ⊥
      offered l g s o e = by (k == l) refl
        where
          by : (t : Bool) → (k == l) ≡ t → ⊥
          by true at = let z : None ≡ Some Role.Pending = sym none ∙ ap r.stated_of (eqb-true k l at) ∙ o.stated in cc
          by false at =
              let (f, is, same, on) = less.streams l o.dial Role.Pending o.dialed o.stated g o.stream in
              let was : IsOffering r l f = record { dial = o.dial; dialed = o.dialed; stated = o.stated; stream = is; goes_on = on o.goes_on } in
              b.none_offered l f (⊎_elim (λ x. inl x) (λ x. inr (x.0, ap (λ t. t || list_any (is_grant_of l) behind) at ∙ x.1)) s) was (same ∙ e)

  role_barren : (r : Chronicle) (n v : ℕ) (role : Role) (behind : List Event) → LawfulRole r n v role → TurnFits u r (Event.Role n v role) → DialsDiffer r → Barren (Steady known all behind) u r → Barren (Steady known all behind) u (after_role r n v role)
  role_barren r n v Role.Active behind l fits differ b = active_barren (Steady known all behind) u r b n v fits
  role_barren r n v Role.Replica behind l fits differ b = barren_less (Steady known all behind) (Steady known all behind) u r (after_role r n v Role.Replica) (λ k s. s) (other_role u r n v Role.Replica (λ e. cc) (λ e. cc)) b
  role_barren r n v Role.Pending behind l fits differ b = pending_barren (Steady known all behind) u r b n v l differ
  role_barren r n v Role.Dead behind l fits differ b = barren_less (Steady known all behind) (Steady known all behind) u r (after_role r n v Role.Dead) (λ k s. s) (other_role u r n v Role.Dead (λ e. cc) (λ e. cc)) b

  -- one that tells no more of it
  next : (r r' : Chronicle) (behind : List Event) → Less u r r' → Barren (Steady known all behind) u r → Barren (Steady known all behind) u r'
  next r r' behind x b = barren_less (Steady known all behind) (Steady known all behind) u r r' (λ l s. s) x b

  line_barren : (r : Chronicle) (line : Event) (behind : List Event) → r.takeover_of ≡ known → LawfulLine r line behind → LineFits r line → TurnFits u r line → DialsDiffer r → Barren (Steady known all (line ∷ behind)) u r → Barren (Steady known all behind) u (after_line r line)
  line_barren r (Event.Branch n v uuid parent fork high) behind same l fits turns differ b = next r _ behind (branch_barren (Steady known all behind) u r b n v uuid parent fork high behind l) b
  line_barren r (Event.Role n v role) behind same l fits turns differ b = role_barren r n v role behind l turns differ b
  line_barren r (Event.Changed n v uuid change) behind same l fits turns differ b = next r _ behind (less_tables u r (after_line r (Event.Changed n v uuid change)) (λ t. is_told_grow r.tree uuid change u t) refl refl refl refl refl (λ k w. same_stream (r.stream_of (StreamName.Link k) w))) b
  line_barren r (Event.Asked (StreamName.Link k) n v ask high log ask_answer.Go) behind same l fits turns differ b = go_barren r k n v ask high log behind fits b
  line_barren r (Event.Asked (StreamName.Link k) n v ask high log (ask_answer.Roll to)) behind same l fits turns differ b = next r _ behind (quiet u r _ refl refl refl refl refl refl refl) b
  line_barren r (Event.Asked (StreamName.Link k) n v ask high log (ask_answer.Refuse code)) behind same l fits turns differ b = b
  line_barren r (Event.Asked (StreamName.Client m c) n v ask high log said) behind same l fits turns differ b = next r _ behind (quiet u r _ refl refl refl refl refl refl refl) b
  line_barren r (Event.Marked (StreamName.Link k) start end flags) behind same l fits turns differ b = next r _ behind (changed_less u r _ (λ j w. (j == k) && is_stream_of r (StreamName.Link k) w) _ (λ g. refl) (λ g e. e) (λ t. t) refl refl refl refl refl (λ j w. refl)) b
  line_barren r (Event.Marked (StreamName.Client m c) start end flags) behind same l fits turns differ b = next r _ behind (quiet u r _ refl refl refl refl refl refl refl) b
  line_barren r (Event.Item (StreamName.Link k) seq act key) behind same l fits turns differ b = next r _ behind (changed_less u r _ (λ j w. (j == k) && is_stream_of r (StreamName.Link k) w) _ (λ g. refl) (λ g e. e) (λ t. t) refl refl refl refl refl (λ j w. refl)) b
  line_barren r (Event.Item (StreamName.Client m c) seq act key) behind same l fits turns differ b = next r _ behind (quiet u r _ refl refl refl refl refl refl refl) b
  line_barren r (Event.Finished (StreamName.Link k) why) behind same l fits turns differ b = next r _ behind (changed_less u r _ (λ j w. (j == k) && is_stream_of r (StreamName.Link k) w) _ (λ g. refl) (λ g e. (let z : true ≡ false = e in cc)) (λ t. t) refl refl refl refl refl (λ j w. refl)) b
  line_barren r (Event.Finished (StreamName.Client m c) why) behind same l fits turns differ b = next r _ behind (quiet u r _ refl refl refl refl refl refl refl) b
  line_barren r (Event.Stated (StreamName.Link k) role) behind same l fits turns differ b = state_barren (Steady known all behind) u r (λ j e. inl (ap (λ (t : ℕ → TakeoverKnown). (t j).turned) (sym same) ∙ e)) b k role l turns
  line_barren r (Event.Stated (StreamName.Client m c) role) behind same l fits turns differ b = b
  line_barren r (Event.Adopted n v log) behind same l fits turns differ b = next r _ behind (adopt_barren (Steady known all behind) u r b n v log turns) b
  line_barren r (Event.Ranged n v ss se) behind same l fits turns differ b = next r _ behind (changed_less u r _ (λ j w. is_feed_of r n v (StreamName.Link j)) _ (λ g. refl) (λ g e. e) (λ t. t) refl refl refl refl refl (λ j w. refl)) b
  line_barren r (Event.Got n v stream change) behind same l fits turns differ b = next r _ behind (changed_less u r _ (λ j w. is_name (StreamName.Link j) stream && is_stream_of r stream w) _ (λ g. refl) (λ g e. e) (λ t. t) refl refl refl refl refl (λ j w. refl)) b
  line_barren r (Event.Acknowledged stream n v seq saved) behind same l fits turns differ b = next r _ behind (changed_less u r _ (λ j w. is_name (StreamName.Link j) stream && is_stream_of r stream w) _ (λ g. refl) (λ g e. e) (λ t. t) refl refl refl refl refl (λ j w. refl)) b
  line_barren r (Event.Ended k why) behind same l fits turns differ b = next r _ behind (end_less u r k) b
  line_barren r (Event.Reply n c bytes) behind same l fits turns differ b = next r _ behind (quiet u r _ refl refl refl refl refl refl refl) b
  line_barren r (Event.Closed n c) behind same l fits turns differ b = next r _ behind (quiet u r _ refl refl refl refl refl refl refl) b
  line_barren r (Event.Rolled n v named to) behind same l fits turns differ b = next r _ behind (quiet u r _ refl refl refl refl refl refl refl) b
  line_barren r (Event.Counted stream n v member seq) behind same l fits turns differ b = next r _ behind (quiet u r _ refl refl refl refl refl refl refl) b
  line_barren r (Event.Batch n v ss se at count) behind same l fits turns differ b = next r _ behind (quiet u r _ refl refl refl refl refl refl refl) b
  line_barren r (Event.NodeStopped n) behind same l fits turns differ b = next r _ behind (quiet u r _ refl refl refl refl refl refl refl) b
  line_barren r other behind same l fits turns differ b = b

  -- one after another
  pub lines_barren : (r : Chronicle) (conns : Conns) (lines : List Event) → r.takeover_of ≡ known → LinesFrom r conns lines → LinesFit r lines → TurnsFit u r lines → DialsDiffer r → Barren (Steady known all lines) u r → Barren (Steady known all []) u (after_lines r lines)
  lines_barren r conns [] same l fits turns differ b = b
  lines_barren r conns (line ∷ lines) same l fits turns differ b =
      lines_barren (after_line r line) _ lines (line_takeovers r line ∙ same) l.1 fits.1 turns.1 (differ_less r (after_line r line) (line_dials r line) differ)
      (line_barren r line lines same (ruled conns line lines (LawfulLine r line lines) l.0) fits.0 turns.0 differ b)
