-- what each line of a script may tell fits: nobody becomes active but on a branch that it makes, or as its heir
use Rattle.std.specs.Prelude.{◌≡◌, ◌∷◌, ◌++◌, ◌&&◌, ◌||◌, ◌==◌, ◌⊎◌, if◌then◌else◌, false, not}
use Rattle.std.specs.List.{list_any}
use Rattle.script_text.specs.declared.verb.ClientVerb.TheVariants as client_verb
use Rattle.script_text.specs.declared.verb.LinkVerb.{LinkVerb}
use Rattle.script_text.specs.declared.verb.LinkVerb.TheVariants as link_verb
use Rattle.script_text.specs.declared.verb.NodeVerb.TheVariants as node_verb
use Rattle.script_text.specs.declared.verb.Verb.TheVariants as verb
use Rattle.script_text.specs.declared.verb.VbVerb.TheVariants as vb_verb
use Rattle.transcript_law.proofs.Words.{ℕ, Bool, true, List, [], refl, ap, sym, ◌∙◌, subst, inl, inr, ⊎_elim, and_parts, list_any-append, Option, Some, None, Answer, Chronicle, EndReason, Event, LogEntry, Role, StreamName, Verb, after_line, after_lines}
use Rattle.transcript_law.proofs.heirless.{Barren.{TurnsFit}, Turns.{AdoptsFit, FeedersUp, RisesFit, adopts_at, adopts_behind, adopts_none, follower_adopts, is_adopt, level_fits, made_fits, none_adopts, rises_behind, turns_fit}}
use Rattle.transcript_law.proofs.invariant.Trees.{IsTold}
use Rattle.transcript_law.proofs.lines.Rises.{is_level, none_rise}
use Rattle.transcript_law.proofs.verbs.{Handing.{each_made}, Tellings.{are_also, each_told}}
use Rattle.transcript_law.specs.{Asked.{TellsAsAsked}, Heirs.{IsHeir}, Lawfulness.{LinesFrom}}
use Rattle.transcript_law.specs.Chronicles.{Conns, ahead, is_rise}
use Rattle.transcript_law.specs.LinesTold.{Dial}
use Rattle.transcript_law.specs.Takeovers.{GivesUp, IsAboutTo, MovesAt, TakesOver, TellsMove, TellsOnly, is_of_over, is_own_commit}
use Rattle.transcript_law.specs.Tellings.{TellsOf, are_all, are_told, at_link, is_of_clients, is_of_disk, is_of_down, is_of_end, is_of_pump, may_tell}
use Rattle.vb_events.specs.declared.event.EndReason.TheVariants as reason
use Rattle.vb_types.specs.declared.change.Act.TheVariants as act

-- ---- lines by their kinds

calm : (b : Bool) → b ≡ false → not b ≡ true
calm true e = cc
calm false e = refl

all_none : (lines : List Event) → list_any is_adopt lines ≡ false → are_all adopts_none lines ≡ true
all_none [] e = refl
all_none (Event.Adopted n v log ∷ lines) e = cc
all_none (line ∷ lines) e = λ i. calm (is_adopt line) (first (is_adopt line) (list_any is_adopt lines) e) i && all_none lines (second (is_adopt line) (list_any is_adopt lines) e) i
  where
    first : (a b : Bool) → (a || b) ≡ false → a ≡ false
    first true b z = cc
    first false b z = refl

    second : (a b : Bool) → (a || b) ≡ false → b ≡ false
    second true b z = cc
    second false b z = z

down_level : (l n v : ℕ) (line : Event) → is_of_down l n v line ≡ true → is_level line ≡ true
down_level l n v (Event.Role m q Role.Active) e = cc
down_level l n v other e = refl

down_at : (l n v : ℕ) (line : Event) → is_of_down l n v line ≡ true → adopts_at n v line ≡ true
down_at l n v (Event.Adopted m q log) e = e
down_at l n v (Event.Role m q role) e = cc
down_at l n v (Event.Branch m q uuid parent fork high) e = cc
down_at l n v other e = refl

disk_at : (n v m : ℕ) (line : Event) → is_of_disk m line ≡ true → adopts_at n v line ≡ true
disk_at n v m (Event.Adopted k q log) e = cc
disk_at n v m (Event.Role k q role) e = cc
disk_at n v m (Event.Branch k q uuid parent fork high) e = cc
disk_at n v m other e = refl

end_at : (r : Chronicle) (n v m : ℕ) (line : Event) → is_of_end r m line ≡ true → adopts_at n v line ≡ true
end_at r n v m (Event.Adopted k q log) e = cc
end_at r n v m (Event.Role k q role) e = cc
end_at r n v m (Event.Branch k q uuid parent fork high) e = cc
end_at r n v m other e = refl

end_none : (r : Chronicle) (m : ℕ) (line : Event) → is_of_end r m line ≡ true → adopts_none line ≡ true
end_none r m (Event.Adopted n v log) e = cc
end_none r m other e = refl

end_level : (r : Chronicle) (m : ℕ) (line : Event) → is_of_end r m line ≡ true → is_level line ≡ true
end_level r m (Event.Role n v Role.Active) e = cc
end_level r m other e = refl

clients_none : (n : ℕ) (line : Event) → is_of_clients n line ≡ true → adopts_none line ≡ true
clients_none n (Event.Adopted m v log) e = cc
clients_none n other e = refl

clients_level : (n : ℕ) (line : Event) → is_of_clients n line ≡ true → is_level line ≡ true
clients_level n (Event.Role m v Role.Active) e = cc
clients_level n other e = refl

pump_none : (l : ℕ) (line : Event) → is_of_pump l line ≡ true → adopts_none line ≡ true
pump_none l (Event.Adopted m v log) e = cc
pump_none l other e = refl

pump_level : (l : ℕ) (line : Event) → is_of_pump l line ≡ true → is_level line ≡ true
pump_level l (Event.Role m v Role.Active) e = cc
pump_level l other e = refl

over_none : (l : ℕ) (line : Event) → is_of_over l line ≡ true → adopts_none line ≡ true
over_none l (Event.Adopted m v log) e = cc
over_none l other e = refl

over_level : (l : ℕ) (line : Event) → is_of_over l line ≡ true → is_level line ≡ true
over_level l (Event.Role m v Role.Active) e = cc
over_level l other e = refl

own_none : (n v : ℕ) (line : Event) → is_own_commit n v line ≡ true → adopts_none line ≡ true
own_none n v (Event.Adopted m q log) e = cc
own_none n v other e = refl

own_level : (n v : ℕ) (line : Event) → is_own_commit n v line ≡ true → is_level line ≡ true
own_level n v (Event.Role m q Role.Active) e = cc
own_level n v other e = refl

gone_none : (l n : ℕ) (line : Event) → (is_of_over l line || is_of_disk n line) ≡ true → adopts_none line ≡ true
gone_none l n (Event.Adopted m v log) e = cc
gone_none l n other e = refl

gone_level : (l n : ℕ) (line : Event) → (is_of_over l line || is_of_disk n line) ≡ true → is_level line ≡ true
gone_level l n (Event.Role m v Role.Active) e = cc
gone_level l n other e = refl

-- ---- no line but a `down` tells of a log that is taken over

abbrev pub is_down_line : Verb → Bool
is_down_line (verb.AtLink l (link_verb.Down wanted)) = true
is_down_line other = false

never_adopts : (r : Chronicle) (asked : Verb) (m q : ℕ) (log : List LogEntry) → is_down_line asked ≡ false → may_tell r asked (Event.Adopted m q log) ≡ false
never_adopts r (verb.Node n) m q log e = refl
never_adopts r (verb.Link l k n v buffer takeover) m q log e = refl
never_adopts r (verb.AtNode n (node_verb.Clock nanos)) m q log e = refl
never_adopts r (verb.AtNode n (node_verb.Stop call out)) m q log e = refl
never_adopts r (verb.AtNode n (node_verb.Fail call)) m q log e = refl
never_adopts r (verb.AtNode n (node_verb.Crash out)) m q log e = refl
never_adopts r (verb.AtNode n (node_verb.Start uuids)) m q log e = refl
never_adopts r (verb.AtVb n v (vb_verb.MakeActive uuid)) m q log e = refl
never_adopts r (verb.AtVb n v vb_verb.MakeReplica) m q log e = refl
never_adopts r (verb.AtVb n v (vb_verb.Chain others)) m q log e = refl
never_adopts r (verb.AtVb n v (vb_verb.Promote uuid)) m q log e = refl
never_adopts r (verb.AtVb n v vb_verb.Follow) m q log e = refl
never_adopts r (verb.AtVb n v vb_verb.Dead) m q log e = refl
never_adopts r (verb.AtVb n v vb_verb.Tick) m q log e = refl
never_adopts r (verb.AtVb n v vb_verb.Trim) m q log e = refl
never_adopts r (verb.AtVb n v vb_verb.Seal) m q log e = refl
never_adopts r (verb.AtVb n v vb_verb.Take) m q log e = refl
never_adopts r (verb.AtVb n v vb_verb.Save) m q log e = refl
never_adopts r (verb.AtVb n v vb_verb.Done) m q log e = refl
never_adopts r (verb.AtVb n v vb_verb.Stat) m q log e = refl
never_adopts r (verb.AtVb n v vb_verb.Log) m q log e = refl
never_adopts r (verb.AtVb n v vb_verb.Show) m q log e = refl
never_adopts r (verb.AtClient n c client_verb.Open) m q log e = refl
never_adopts r (verb.AtClient n c (client_verb.Bytes bytes)) m q log e = refl
never_adopts r (verb.AtClient n c (client_verb.Pull wanted)) m q log e = refl
never_adopts r (verb.AtClient n c client_verb.Hang) m q log e = refl
never_adopts r (verb.AtLink l (link_verb.Down wanted)) m q log e = cc
never_adopts r (verb.AtLink l (link_verb.Up wanted)) m q log e = at (r.dial_of l)
  where
    at : (d : Option Dial) → at_link d l (link_verb.Up wanted) (Event.Adopted m q log) ≡ false
    at None = refl
    at (Some d) = refl
never_adopts r (verb.AtLink l (link_verb.Pump wanted)) m q log e = at (r.dial_of l)
  where
    at : (d : Option Dial) → at_link d l (link_verb.Pump wanted) (Event.Adopted m q log) ≡ false
    at None = refl
    at (Some d) = refl
never_adopts r (verb.AtLink l link_verb.Drop) m q log e = at (r.dial_of l)
  where
    at : (d : Option Dial) → at_link d l link_verb.Drop (Event.Adopted m q log) ≡ false
    at None = refl
    at (Some d) = refl
never_adopts r (verb.AtLink l link_verb.Cut) m q log e = at (r.dial_of l)
  where
    at : (d : Option Dial) → at_link d l link_verb.Cut (Event.Adopted m q log) ≡ false
    at None = refl
    at (Some d) = refl

may_none : (r : Chronicle) (asked : Verb) → is_down_line asked ≡ false → (line : Event) → may_tell r asked line ≡ true → adopts_none line ≡ true
may_none r asked other (Event.Adopted m q log) e = let z : false ≡ true = sym (never_adopts r asked m q log other) ∙ e in cc
may_none r asked other line e = refl

-- ---- vBuckets that are handed over

-- one is given up
gives_up : (u : ℕ) (r : Chronicle) (l : ℕ) (d : Dial) (lines : List Event) → GivesUp r l d lines → RisesFit u r lines × AdoptsFit r lines
gives_up u r l d lines x = subst (λ ls. RisesFit u r ls × AdoptsFit r ls) (sym x.together) (
  rises_behind u _ x.told x.frames (none_rise x.told (are_also is_level (is_of_clients d.producer) (clients_level d.producer) x.told x.clients)) (level_fits u _ x.frames (none_rise x.frames (are_also is_level (is_of_pump l) (pump_level l) x.frames x.put))),
  adopts_behind _ x.told x.frames (none_adopts _ x.told (are_also adopts_none (is_of_clients d.producer) (clients_none d.producer) x.told x.clients)) (none_adopts _ x.frames (are_also adopts_none (is_of_pump l) (pump_none l) x.frames x.put)),
)

module _ (u : ℕ) (r : Chronicle) (l : ℕ) (d : Dial) (lines : List Event) where
  abbrev Rests : Type 0
  Rests = r.role_at d.node d.vb ≡ Some (Some Role.Active) → ⊥

  about_to : IsAboutTo r l d.node d.vb lines → RisesFit u r lines × (Rests → AdoptsFit r lines)
  about_to x = subst (λ ls. RisesFit u r ls × (Rests → AdoptsFit r ls)) (sym x.together) (
    rises_behind u r x.front _ (none_rise x.front (are_also is_level (is_of_down l d.node d.vb) (down_level l d.node d.vb) x.front x.taken)) (level_fits u _ x.behind (none_rise x.behind (are_also is_level (is_of_over l) (over_level l) x.behind x.over))),
    λ rests. adopts_behind r x.front _ (follower_adopts r d.node d.vb x.front (are_also (adopts_at d.node d.vb) (is_of_down l d.node d.vb) (down_at l d.node d.vb) x.front x.taken) rests) (none_adopts _ x.behind (are_also adopts_none (is_of_over l) (over_none l) x.behind x.over)),
  )

  takes_over : TakesOver r l d.node d.vb lines → RisesFit u r lines × (Rests → AdoptsFit r lines)
  takes_over x = subst (λ ls. RisesFit u r ls × (Rests → AdoptsFit r ls)) (sym x.together) (
    rises_behind u r x.front _ (none_rise x.front (are_also is_level (is_of_down l d.node d.vb) (down_level l d.node d.vb) x.front x.taken))
        ((λ on. x.heir), rises_behind u _ x.commits x.behind (none_rise x.commits (are_also is_level (is_own_commit d.node d.vb) (own_level d.node d.vb) x.commits x.own)) (level_fits u _ x.behind (none_rise x.behind (each_told (λ line. is_of_over l line || is_of_disk d.node line) (is_of_end r) is_level (gone_level l d.node) (λ m stops line e. end_level r m line e) x.behind x.over)))),
    λ rests. adopts_behind r x.front _ (follower_adopts r d.node d.vb x.front (are_also (adopts_at d.node d.vb) (is_of_down l d.node d.vb) (down_at l d.node d.vb) x.front x.taken) rests)
        (adopts_behind _ x.commits x.behind (none_adopts _ x.commits (are_also adopts_none (is_own_commit d.node d.vb) (own_none d.node d.vb) x.commits x.own)) (none_adopts _ x.behind (each_told (λ line. is_of_over l line || is_of_disk d.node line) (is_of_end r) adopts_none (gone_none l d.node) (λ m stops line e. end_none r m line e) x.behind x.over))),
  )

  -- its lines, where none of them hands a vBucket over
  abbrev takes_at : Event → Bool
  takes_at line = is_of_down l d.node d.vb line || is_of_disk d.node line

  one_at : (line : Event) → (is_of_down l d.node d.vb line || is_of_disk d.node line) ≡ true → adopts_at d.node d.vb line ≡ true
  one_at (Event.Adopted m q log) e = or_none (m == d.node && q == d.vb) e
    where
      or_none : (b : Bool) → (b || false) ≡ true → b ≡ true
      or_none true z = refl
      or_none false z = z
  one_at (Event.Role m q role) e = cc
  one_at (Event.Branch m q uuid parent fork high) e = cc
  one_at other e = refl

  down_adopts : are_told (λ line. is_of_down l d.node d.vb line || is_of_disk d.node line) (is_of_end r) lines ≡ true → Rests → AdoptsFit r lines
  down_adopts t rests = follower_adopts r d.node d.vb lines (each_told (λ line. is_of_down l d.node d.vb line || is_of_disk d.node line) (is_of_end r) (adopts_at d.node d.vb) one_at (λ m stops line e. end_at r d.node d.vb m line e) lines t) rests

-- ---- each line

-- a vBucket that takes a log over by a `down` is not active as that begins
abbrev pub AdoptsRest : Chronicle → Verb → List Event → Type 0
AdoptsRest r (verb.AtLink l (link_verb.Down wanted)) lines = (d : Dial) → r.dial_of l ≡ Some d → list_any is_adopt lines ≡ true → r.role_at d.node d.vb ≡ Some (Some Role.Active) → ⊥
AdoptsRest r other lines = Unit {0}

-- where nothing is taken over, or by one that is not active
if_taken : (r : Chronicle) (lines : List Event) (rests : Type 0) → (list_any is_adopt lines ≡ true → rests) → (rests → AdoptsFit r lines) → AdoptsFit r lines
if_taken r lines rests has fits = by (list_any is_adopt lines) refl
  where
    by : (b : Bool) → list_any is_adopt lines ≡ b → AdoptsFit r lines
    by true e = fits (has e)
    by false e = none_adopts r lines (all_none lines e)

moved_fits : (u : ℕ) (r : Chronicle) (l : ℕ) (what : LinkVerb) (lines : List Event) → AdoptsRest r (verb.AtLink l what) lines → (o : Option Dial) → r.dial_of l ≡ o → MovesAt r o l what lines → RisesFit u r lines × AdoptsFit r lines
moved_fits u r l what lines rests None e m = absurd m
moved_fits u r l (link_verb.Up wanted) lines rests (Some d) e m = absurd m
moved_fits u r l (link_verb.Down wanted) lines rests (Some d) e m =
    let x = ⊎_elim (about_to u r l d lines) (takes_over u r l d lines) m in (x.0, if_taken r lines (r.role_at d.node d.vb ≡ Some (Some Role.Active) → ⊥) (λ taken. rests d e taken) x.1)
moved_fits u r l (link_verb.Pump frames) lines rests (Some d) e m = gives_up u r l d lines m
moved_fits u r l link_verb.Drop lines rests (Some d) e m = absurd m
moved_fits u r l link_verb.Cut lines rests (Some d) e m = absurd m

-- a `down` by which none is handed over
down_fits : (r : Chronicle) (l wanted : ℕ) (lines : List Event) → AdoptsRest r (verb.AtLink l (link_verb.Down wanted)) lines → TellsOf r (verb.AtLink l (link_verb.Down wanted)) lines → AdoptsFit r lines
down_fits r l wanted lines rests t = by (r.dial_of l) refl t
  where
    by : (o : Option Dial) → r.dial_of l ≡ o → are_told (at_link o l (link_verb.Down wanted)) (is_of_end r) lines ≡ true → AdoptsFit r lines
    by None e t = none_adopts r lines (each_told (at_link None l (link_verb.Down wanted)) (is_of_end r) adopts_none (λ line z. cc) (λ m stops line z. end_none r m line z) lines t)
    by (Some d) e t = if_taken r lines (r.role_at d.node d.vb ≡ Some (Some Role.Active) → ⊥) (λ taken. rests d e taken) (down_adopts 0 r l d lines t)

others_fit : (r : Chronicle) (asked : Verb) (lines : List Event) → is_down_line asked ≡ false → TellsOf r asked lines → (s : Chronicle) → AdoptsFit s lines
others_fit r asked lines other t s = none_adopts s lines (each_told (may_tell r asked) (is_of_end r) adopts_none (may_none r asked other) (λ m stops line e. end_none r m line e) lines t)

-- whatever the line is
pub tells_fit : (u : ℕ) (r : Chronicle) (conns : Conns) (asked : Verb) (lines : List Event) (said : Answer) → TellsOnly r asked lines → TellsAsAsked asked lines said → AdoptsRest r asked lines → IsTold (ahead r asked said).tree u → FeedersUp (ahead r asked said) → LinesFrom (ahead r asked said) conns lines → TurnsFit u (ahead r asked said) lines
tells_fit u r conns asked lines said tells asks rests told up l = ⊎_elim plain (moves asked refl rests l up) tells
  where
    rises : TellsOf r asked lines → RisesFit u (ahead r asked said) lines
    rises t = made_fits u (ahead r asked said) conns None lines told tt (each_made r asked lines said t asks) l

    by : (b : Bool) → is_down_line asked ≡ b → TellsOf r asked lines → AdoptsFit (ahead r asked said) lines
    by false e t = others_fit r asked lines e t (ahead r asked said)
    by true e t = at asked e rests t
      where
        at : (asked : Verb) → is_down_line asked ≡ true → AdoptsRest r asked lines → TellsOf r asked lines → AdoptsFit (ahead r asked said) lines
        at (verb.AtLink l (link_verb.Down wanted)) e rests t = down_fits r l wanted lines rests t
        at other e rests t = cc

    plain : TellsOf r asked lines → TurnsFit u (ahead r asked said) lines
    plain t = turns_fit u (ahead r asked said) lines up (rises t) (by (is_down_line asked) refl t)

    moves : (k : Verb) → asked ≡ k → AdoptsRest r k lines → LinesFrom (ahead r k said) conns lines → FeedersUp (ahead r k said) → TellsMove r k lines → TurnsFit u (ahead r k said) lines
    moves (verb.AtLink l what) e rests from up m = let x = moved_fits u r l what lines rests (r.dial_of l) refl m in turns_fit u r lines up x.0 x.1
    moves other e rests from up m = absurd m
