-- the line `link`: what is known of links is known behind it, and of the new one that it is dialed for a takeover, or not
use Rattle.std.specs.Prelude.{◌≡◌, ◌∷◌, ◌++◌, ◌&&◌, ◌||◌, ◌==◌, if◌then◌else◌}
use Rattle.std.specs.List.{All}
use Rattle.transcript_law.proofs.Words.{ℕ, Bool, true, false, not, List, [], refl, ap, sym, ◌∙◌, subst, ⊎_elim, eq-eqb, ne_eqb, Option, Some, None, All-nil, Answer, Cause, Chronicle, Event, PlainLink, PlainStream, PlainWorld, StreamAsk, StreamName, Told, Verb, ask_in, done, first_cause, link_causes, link_number, link_step, new_link, refusal, refused_or, with_branches, with_dialed, with_links}
use Rattle.transcript_law.proofs.invariant.{Agreement.{Agrees, IsLink}, LinkRows.{is_link_more}, Noted.{AllKept, KeptFor, KeptLink, NotedStream}, Tables.{none_hold}}
use Rattle.transcript_law.proofs.noted.{Freed.{AllMade, LinesFit}, Groups.{link_known, read_with}, KeptGroups.{link_kept, rests_same}, Known.{AllKnown, LinkKnown, ObeyedOn}, Staying.{link_same}}
use Rattle.transcript_law.proofs.verbs.Dials.{free_links}
use Rattle.transcript_law.specs.{Chronicles.{after_group, ahead}, Lawfulness.{LinesFrom}}
use Rattle.transcript_law.specs.LinesTold.{Dial, TakeoverKnown, dialed_for}
use Rattle.transcript_law.specs.TakeoverNotes.{is_pump_of, obeyed_after}

-- no line stands in the group, so no vBucket turned
stays : (w' : PlainWorld) (r : Chronicle) (asked : Verb) (said : Answer) → Agrees w' (after_group r asked [] said) → (x : PlainLink) → IsLink x w'.links → is_pump_of (link_number x) asked ≡ false
    → obeyed_after ((read_with r asked [] said).dial_of (link_number x)) asked [] said (link_number x) (r.takeover_of (link_number x)) ≡ r.takeover_of (link_number x)
    → LinkKnown (r.takeover_of (link_number x)) x → LinkKnown ((after_group r asked [] said).takeover_of (link_number x)) x
stays w' r asked said a x i pumps same known = link_known w' r asked [] said a x x i refl pumps same (link_same false x refl) known

-- another link than the one that is dialed
pub other_obeyed : (dial : Option Dial) (k m n v buffer : ℕ) (takeover : Bool) (said : Answer) (l : ℕ) (t : TakeoverKnown) → (l ≡ k → ⊥) → obeyed_after dial (Verb.Link k m n v buffer takeover) [] said l t ≡ t
other_obeyed dial k m n v buffer takeover Answer.Ok l t ne = ap (λ b. if b then dialed_for takeover else t) (ne_eqb k l (λ e. ne (sym e)))
other_obeyed dial k m n v buffer takeover (Answer.No why) l t ne = refl
other_obeyed dial k m n v buffer takeover (Answer.Number n') l t ne = refl
other_obeyed dial k m n v buffer takeover (Answer.Pulled n' why) l t ne = refl

module _ (w : PlainWorld) (r : Chronicle) (line l m n v buffer : ℕ) (takeover : Bool) (all : AllKnown w r) where
  abbrev asked : Verb
  asked = Verb.Link l m n v buffer takeover

  abbrev Known : PlainWorld × Told → Type 0
  Known o = Agrees (with_branches o.1.events o.0) (after_group r asked o.1.events o.1.answer) → AllKnown (with_branches o.1.events o.0) (after_group r asked o.1.events o.1.answer)

  refused : (why : Cause) → Known (w, refusal why)
  refused why a x i = stays (with_branches [] w) r asked (Answer.No why) a x i refl refl (all x i)

  -- the new link: it is told for what it was dialed, and has no stream
  new_known : (ask : StreamAsk) (t : TakeoverKnown) → t.dialed ≡ takeover → LinkKnown t (new_link line l m n v buffer takeover ask)
  new_known ask t e = record { noted = record { dialed = e; each = All-nil (NotedStream t) }; obeyed = All-nil (ObeyedOn t (new_link line l m n v buffer takeover ask)) }

  dialed : (free : (x : PlainLink) → IsLink x w.links → link_number x ≡ l → ⊥) (asks : Option StreamAsk) → Known (with_links w (with_dialed line l m n v buffer takeover w.links asks), done [])
  dialed free None a x i =
      stays (with_branches [] w) r asked Answer.Ok a x i refl (other_obeyed ((read_with r asked [] Answer.Ok).dial_of (link_number x)) l m n v buffer takeover Answer.Ok (link_number x) (r.takeover_of (link_number x)) (free x i)) (all x i)
  dialed free (Some ask) a x i =
      let link : PlainLink = new_link line l m n v buffer takeover ask in let now : PlainWorld = with_branches [] (with_links w (w.links ++ link ∷ [])) in
      ⊎_elim
      (λ e. subst (λ (k : PlainLink). LinkKnown ((after_group r asked [] Answer.Ok).takeover_of (link_number k)) k) (sym e)
      (new_known ask ((after_group r asked [] Answer.Ok).takeover_of l) (ap (λ b. (if b then dialed_for takeover else (read_with r asked [] Answer.Ok).takeover_of l).dialed) (eq-eqb l l refl))))
      (λ old. stays now r asked Answer.Ok a x i refl (other_obeyed ((read_with r asked [] Answer.Ok).dial_of (link_number x)) l m n v buffer takeover Answer.Ok (link_number x) (r.takeover_of (link_number x)) (free x old)) (all x old))
      (is_link_more x link w.links i)

  pub dial_line : Known (link_step w line l m n v buffer takeover)
  dial_line = by (first_cause (link_causes w l m n v)) refl
    where
      by : (why : Option Cause) → first_cause (link_causes w l m n v) ≡ why → Known (refused_or why w (with_links w (with_dialed line l m n v buffer takeover w.links (ask_in w n v)), done []))
      by (Some why) e = refused why
      by None e = dialed (λ x i. (free_links w.links l n v (none_hold (link_causes w l m n v) e).1.1.1.1.0 x i).0) (ask_in w n v)

-- it tells of nothing
pub dial_fits : (w : PlainWorld) (r : Chronicle) (line l m n v buffer : ℕ) (takeover : Bool) → (let o = link_step w line l m n v buffer takeover in LinesFit (ahead r (Verb.Link l m n v buffer takeover) o.1.answer) o.1.events)
dial_fits w r line l m n v buffer takeover = by (first_cause (link_causes w l m n v))
  where
    by : (why : Option Cause) → (let o = refused_or why w (with_links w (with_dialed line l m n v buffer takeover w.links (ask_in w n v)), done []) in LinesFit (ahead r (Verb.Link l m n v buffer takeover) o.1.answer) o.1.events)
    by (Some why) = tt
    by None = tt

-- ---- who was given up for a stream whose rest is sent is the writer yet

module _ (w : PlainWorld) (r : Chronicle) (line l m n v buffer : ℕ) (takeover : Bool) (a : Agrees w r) (made : AllMade r) (kept : AllKept w r) where
  abbrev dialing : Verb
  dialing = Verb.Link l m n v buffer takeover

  abbrev Kept : PlainWorld × Told → Type 0
  Kept o = LinesFrom (ahead r dialing o.1.answer) r.conn_at o.1.events → Agrees (with_branches o.1.events o.0) (after_group r dialing o.1.events o.1.answer) → AllKept (with_branches o.1.events o.0) (after_group r dialing o.1.events o.1.answer)

  refused_kept : (why : Cause) → Kept (w, refusal why)
  refused_kept why from b x i = link_kept w (with_branches [] w) r dialing [] (Answer.No why) a from made b x x i i refl refl refl refl (rests_same x.server.streams) (kept x i)

  dialed_kept : (free : (x : PlainLink) → IsLink x w.links → link_number x ≡ l → ⊥) (asks : Option StreamAsk) → Kept (with_links w (with_dialed line l m n v buffer takeover w.links asks), done [])
  dialed_kept free None from b x i = link_kept w (with_branches [] w) r dialing [] Answer.Ok a from made b x x i i refl (ne_eqb (link_number x) l (free x i)) refl refl (rests_same x.server.streams) (kept x i)
  dialed_kept free (Some ask) from b x i =
      let link : PlainLink = new_link line l m n v buffer takeover ask in let now : PlainWorld = with_branches [] (with_links w (w.links ++ link ∷ [])) in let after : Chronicle = after_group r dialing [] Answer.Ok in
      ⊎_elim
      (λ e. subst (λ (k : PlainLink). KeptLink after k) (sym e) (All-nil (KeptFor after m v (after.stream_of (StreamName.Link l) v))))
      (λ old. link_kept w now r dialing [] Answer.Ok a from made b x x old i refl (ne_eqb (link_number x) l (free x old)) refl refl (rests_same x.server.streams) (kept x old))
      (is_link_more x link w.links i)

  pub dial_kept : Kept (link_step w line l m n v buffer takeover)
  dial_kept = by (first_cause (link_causes w l m n v)) refl
    where
      by : (why : Option Cause) → first_cause (link_causes w l m n v) ≡ why → Kept (refused_or why w (with_links w (with_dialed line l m n v buffer takeover w.links (ask_in w n v)), done []))
      by (Some why) e = refused_kept why
      by None e = dialed_kept (λ x i. (free_links w.links l n v (none_hold (link_causes w l m n v) e).1.1.1.1.0 x i).0) (ask_in w n v)
