-- lines by which no end of a stream comes to be on its way: what is known of those that are stays known
use Rattle.std.specs.Prelude.{◌≡◌, ◌∷◌, ◌++◌, if◌then◌else◌}
use Rattle.transcript_law.proofs.Words.{ℕ, Bool, true, false, List, [], refl, ap, sym, ◌∙◌, subst, inl, inr, ⊎_elim, Option, Some, None, Answer, Cause, Chronicle, Event, PlainLink, PlainNode, PlainWorld, StreamAsk, Told, Verb, VbVerb, after, ask_in, done, first_cause, frames_in, link_causes, link_number, link_step, new_link, on_node, own_link, refusal, refused_or, verb_step, with_branches, with_dialed, with_links}
use Rattle.node_core.specs.Dials.{DialResult, dial_due}
use Rattle.node_world.specs.{Dues.{done_step, due_at, due_of, is_counted, with_acknowledged, with_due}, Links.{dial_of, feeds}, Nodes.{flush_line, if_up}}
use Rattle.vb_types.specs.declared.journal.FlushPart.TheVariants as part
use Rattle.transcript_law.proofs.balance.{Flows.{is_done, still_flows}, Hearing.{Dued, dued}, Leaving.{found_among, node_links, put_among}, Levels.{FlowOn, Has}, Measures.{no_frames}}
use Rattle.transcript_law.proofs.invariant.{Agreement.{Agrees, IsLink}, LinkRows.{is_link_more}, Tables.{none_hold}}
use Rattle.transcript_law.proofs.noted.{Dialing.{other_obeyed}, Ending.{AllEnding, EndsAs, EndsRemain, end_of, is_dialing, link_ends, obeyed_turned}, Groups.{is_still, no_grants, read_with}}
use Rattle.transcript_law.proofs.verbs.{Dials.{free_links}, Untaken.{is_beside}}
use Rattle.transcript_law.specs.Chronicles.{after_group}
use Rattle.transcript_law.specs.LinesTold.{TakeoverKnown}
use Rattle.transcript_law.specs.TakeoverNotes.{obeyed_after}
use Rattle.transcript_law.specs.Tellings.{are_all}

-- each link is one that was there, and no end came to be on its way
abbrev pub EndsOn : List PlainLink → List PlainLink → Type 0
EndsOn links links' = (x : PlainLink) → IsLink x links' → (y : PlainLink) × IsLink y links × EndsRemain y x

pub same_ends : (x : PlainLink) → EndsRemain x x
same_ends x = record { dialed = refl; coming = λ b o v has. has }

pub flows_end : (links links' : List PlainLink) → FlowOn links links' → EndsOn links links'
flows_end links links' on x i =
    let (y, j, same) = on x i in
    (y, j, record { dialed = ap (λ f. f.dialed) same; coming = λ b o v has. subst (Has (end_of o v b)) (ap (λ f. frames_in (f.down_heard ++ f.down)) same) has })

-- ---- one that acknowledges more

due_ends : (y : PlainLink) (told : DialResult) → Dued (dial_of y) told → EndsRemain y (with_due y told)
due_ends y told (inl is) = subst (λ t. EndsRemain y (with_due y t)) (sym is) (record { dialed = refl; coming = λ b o v has. has })
due_ends y told (inr (seq, saved, is)) = subst (λ t. EndsRemain y (with_due y t)) (sym is) (record { dialed = refl; coming = λ b o v has. has })

module _ (w : PlainWorld) where
  abbrev Ends : PlainWorld → Type 0
  Ends now = EndsOn w.links now.links

  module _ (n v : ℕ) (now : PlainWorld) (same : now.links ≡ w.links) (said : Told) where
    now_ends : Ends now
    now_ends x i = (x, subst (IsLink x) same i, same_ends x)

    acked_ends : (link : PlainLink) → IsLink link now.links → (node : PlainNode) → Ends (with_acknowledged n link node now said (after (dial_due (dial_of link)) node.vbs)).0
    acked_ends link i node x j =
        let told : DialResult = (after (dial_due (dial_of link)) node.vbs).1 in
        ⊎_elim (λ e. (link, subst (IsLink link) same i, subst (EndsRemain link) (sym e) (due_ends link told (dued (dial_of link) node.vbs))))
        (λ old. (x, subst (IsLink x) same old, same_ends x)) (put_among (link_number link) (with_due link told) now.links x j)

    due_ends_at : (link : PlainLink) → IsLink link now.links → (o : Option PlainNode) → Ends (due_at n link now said o).0
    due_ends_at link i None = now_ends
    due_ends_at link i (Some node) = acked_ends link i node

    due_ends_of : (o : Option PlainLink) → own_link n v now.links ≡ o → Ends (due_of n now said o).0
    due_ends_of None e = now_ends
    due_ends_of (Some link) e = due_ends_at link (found_among (feeds n v) now.links link e) (now.nodes n)

    due_ends_in : (b : Bool) → Ends (if b then due_of n now said (own_link n v now.links) else (now, said)).0
    due_ends_in true = due_ends_of (own_link n v now.links) refl
    due_ends_in false = now_ends

  done_ends : (n v : ℕ) → Ends (done_step w n v).0
  done_ends n v = let came = on_node w n (flush_line n v part.Done) in due_ends_in n v came.0 (node_links w n _ (w.nodes n) (if_up (flush_line n v part.Done))) came.1 (is_counted came.1.answer)

  ends_done : (number : ℕ) (line : Verb) → is_done line ≡ true → Ends (verb_step w number line).0
  ends_done number (Verb.AtVb n v VbVerb.Done) e = done_ends n v
  ends_done number other e = cc

  pub still_ends : (number : ℕ) (line : Verb) → is_still line ≡ true → Ends (verb_step w number line).0
  still_ends number line still = by (is_done line) refl
    where
      by : (b : Bool) → is_done line ≡ b → Ends (verb_step w number line).0
      by true e = ends_done number line e
      by false e = flows_end w.links (verb_step w number line).0.links (still_flows w number line still e)

-- ---- lines for no link, or that cut one

still_dials : (line : Verb) → is_still line ≡ true → is_dialing line ≡ false
still_dials (Verb.Link l m n v buffer takeover) e = cc
still_dials other e = refl

module _ (w w' : PlainWorld) (r : Chronicle) (asked : Verb) (lines : List Event) (said : Answer) (a : Agrees w' (after_group r asked lines said)) where
  pub still_ending : is_still asked ≡ true → are_all is_beside lines ≡ true → EndsOn w.links w'.links → AllEnding w r → AllEnding w' (after_group r asked lines said)
  still_ending still beside on all x i =
      let (y, j, remains) = on x i in let l = link_number x in
      link_ends w' r asked lines said a y x i (λ b o v has. no_grants l lines beside) (obeyed_turned ((read_with r asked lines said).dial_of l) asked lines said l (r.takeover_of l) (still_dials asked still)) remains (all y j)

pub still_line_ends : (w : PlainWorld) (r : Chronicle) (number : ℕ) (line : Verb) → is_still line ≡ true → (let o = verb_step w number line in are_all is_beside o.1.events ≡ true
    → Agrees (with_branches o.1.events o.0) (after_group r line o.1.events o.1.answer) → AllEnding w r → AllEnding (with_branches o.1.events o.0) (after_group r line o.1.events o.1.answer))
still_line_ends w r number line still beside a all = let o = verb_step w number line in still_ending w (with_branches o.1.events o.0) r line o.1.events o.1.answer a still beside (still_ends w number line still) all

-- ---- a link that is opened

module _ (w : PlainWorld) (r : Chronicle) (line l m n v buffer : ℕ) (takeover : Bool) (all : AllEnding w r) where
  abbrev asked : Verb
  asked = Verb.Link l m n v buffer takeover

  abbrev Ending : PlainWorld × Told → Type 0
  Ending o = Agrees (with_branches o.1.events o.0) (after_group r asked o.1.events o.1.answer) → AllEnding (with_branches o.1.events o.0) (after_group r asked o.1.events o.1.answer)

  old_ends : (w' : PlainWorld) (said : Answer) → Agrees w' (after_group r asked [] said) → (x : PlainLink) → IsLink x w'.links → IsLink x w.links
      → obeyed_after ((read_with r asked [] said).dial_of (link_number x)) asked [] said (link_number x) (r.takeover_of (link_number x)) ≡ r.takeover_of (link_number x)
      → EndsAs ((after_group r asked [] said).takeover_of (link_number x)) x
  old_ends w' said a x i old same = link_ends w' r asked [] said a x x i (λ b o v has. refl) (ap (λ (t : TakeoverKnown). t.turned) same) (same_ends x) (all x old)

  refused : (why : Cause) → Ending (w, refusal why)
  refused why a x i = old_ends (with_branches [] w) (Answer.No why) a x i i refl

  -- nothing is on its way over the new one
  new_ends : (ask : StreamAsk) (t : TakeoverKnown) → EndsAs t (new_link line l m n v buffer takeover ask)
  new_ends ask t takes b o q has = absurd (subst (Has (end_of o q b)) no_frames has)

  dialed : (free : (x : PlainLink) → IsLink x w.links → link_number x ≡ l → ⊥) (asks : Option StreamAsk) → Ending (with_links w (with_dialed line l m n v buffer takeover w.links asks), done [])
  dialed free None a x i =
      old_ends (with_branches [] w) Answer.Ok a x i i (other_obeyed ((read_with r asked [] Answer.Ok).dial_of (link_number x)) l m n v buffer takeover Answer.Ok (link_number x) (r.takeover_of (link_number x)) (free x i))
  dialed free (Some ask) a x i =
      let link : PlainLink = new_link line l m n v buffer takeover ask in let now : PlainWorld = with_branches [] (with_links w (w.links ++ link ∷ [])) in
      ⊎_elim
      (λ e. subst (λ (k : PlainLink). EndsAs ((after_group r asked [] Answer.Ok).takeover_of (link_number k)) k) (sym e) (new_ends ask ((after_group r asked [] Answer.Ok).takeover_of l)))
      (λ old. old_ends now Answer.Ok a x i old (other_obeyed ((read_with r asked [] Answer.Ok).dial_of (link_number x)) l m n v buffer takeover Answer.Ok (link_number x) (r.takeover_of (link_number x)) (free x old)))
      (is_link_more x link w.links i)

  pub dial_ends : Ending (link_step w line l m n v buffer takeover)
  dial_ends = by (first_cause (link_causes w l m n v)) refl
    where
      by : (why : Option Cause) → first_cause (link_causes w l m n v) ≡ why → Ending (refused_or why w (with_links w (with_dialed line l m n v buffer takeover w.links (ask_in w n v)), done []))
      by (Some why) e = refused why
      by None e = dialed (λ x i. (free_links w.links l n v (none_hold (link_causes w l m n v) e).1.1.1.1.0 x i).0) (ask_in w n v)
