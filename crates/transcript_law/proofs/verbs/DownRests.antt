-- what the frames of a line `down` leave to commit
use Rattle.std.specs.Prelude.{◌≡◌, ◌∷◌, if◌then◌else◌}
use Rattle.transcript_law.proofs.{Words.{inl, inr}, balance.Levels.{Has}}
use Rattle.transcript_law.proofs.Words.{ℕ, Bool, true, false, List, [], refl, ap, sym, ◌∙◌, subst, eq-eqb, fold, Option, Some, None, Frame, EndReason, Event, StaysSound, Ended, DialResult, Plain, PlainNode, Role, Sound, after_job, after_job_fold, frame_taken, frames_taken, job_stepped, vb_in, Chronicle, Member, after_lines}
use Rattle.transcript_law.proofs.invariant.{Agreement.{AgreesAt, is_refused_ack, spoken, vb_of}, AtRest.{RestsIf}, CallsKept.{AllAt}, OwnRests.{frame_rests}, Seats.{seat}}
use Rattle.transcript_law.proofs.links.Downing.{Asker, Line, Noticed, Phase, Reached, Stage, lifted_at, link_now, now, so_far}
use Rattle.transcript_law.proofs.links.{Onward.{Kept, unarmed}, Spoken.{spoken_front}, Taken.{dropped_taken, over_taken}}
use Rattle.transcript_law.proofs.verbs.DownFrames.{one}
use Rattle.node_world.specs.{Arms.{lifted}, Nodes.{with_kept}}
use Rattle.transcript_law.specs.Chronicles.{after_noted}
use Rattle.vb_events.specs.declared.event.Answer.TheVariants as answer

-- what agrees is sound
sound_in : (r : Chronicle) (n v : ℕ) (m : Member) (o : Option Plain) (vb : Plain) → o ≡ Some vb → AgreesAt r n v m o → Sound vb
sound_in r n v m o vb e a = (subst (AgreesAt r n v m) e a).sound

module _ (stays : StaysSound) (line : Line) (noticed : Noticed line) where
  open line use {w, node, link}
  open link.consumer.dialed use {node as n, vb as v, link as l}

  -- the vBucket as it is in the course of the line
  there_now : (states : Kept) (at : Asker) (fv : Plain) → states.0 v ≡ Some fv → vb_of (now line states at) n v ≡ Some fv
  there_now states at fv e = ap (λ b. vb_in (if b then Some (with_kept node (unarmed v states)) else w.nodes n) v) (eq-eqb n n refl) ∙ e

  lifted_now : (states : Kept) (fv : Plain) → states.0 v ≡ Some fv → vb_of (lifted_at line states) n v ≡ Some fv
  lifted_now states fv e = ap (λ b. vb_in (if b then Some (lifted v (with_kept node states)) else w.nodes n) v) (eq-eqb n n refl) ∙ e

  -- after a frame
  abbrev Leaves : (f : Frame) (states : Kept) (at : Asker) (over : Option EndReason) (events : List Event) → Type 0
  Leaves f states at over events = AllAt RestsIf (after_job (frame_taken f (so_far line at over events)) states.0 states.1).0.0

  one_rests : (f : Frame) (rest : List Frame) (states : Kept) (at : Asker) (over : Option EndReason) (events : List Event) (phase : Phase) → Stage line phase (f ∷ rest) states at over events → AllAt RestsIf states.0 → Leaves f states at over events
  one_rests f rest states at (Some why) events phase g all = subst (λ p. AllAt RestsIf (after_job p states.0 states.1).0.0) (sym (over_taken f (so_far line at (Some why) events) why refl)) all
  one_rests f rest states at None events Phase.Moving g all = frame_rests states.0 states.1 all f (so_far line at None events) (λ fv e pends. sound_in (after_lines line.r events) n v (g.0.cluster.nodes (seat n v)) (vb_of (now line states at) n v) fv (there_now states at fv e) (g.0.agrees.vbs n v))
  one_rests f rest states at None events Phase.Rolled g all = by (is_refused_ack f) refl
    where
      by : (b : Bool) → is_refused_ack f ≡ b → Leaves f states at None events
      by true e = subst (λ p. AllAt RestsIf (after_job p states.0 states.1).0.0) (sym (dropped_taken f (so_far line at None events) e)) all
      by false e = let none : f ∷ spoken rest ≡ [] = sym (spoken_front f rest e) ∙ g.0 in cc
  one_rests f rest states at None events Phase.Owned g all = frame_rests states.0 states.1 all f (so_far line at None events) (λ fv e pends. sound_in (after_noted (after_lines line.r events) n v Role.Active answer.Ok) n v (g.came.3.nodes (seat n v)) (vb_of (lifted_at line states) n v) fv (lifted_now states fv e) (g.came.4.vbs n v))

  rests_frames : (frames : List Frame) → ((f : Frame) → Has f frames → Has f line.all) → (came : Kept × DialResult) → Reached line frames came → AllAt RestsIf came.0.0 → AllAt RestsIf (fold (job_stepped frame_taken) came frames).0.0
  rests_frames [] among came x all = all
  rests_frames (f ∷ rest) among came x all = rests_frames rest (λ g has. among g (inr has)) (job_stepped frame_taken came f)
      (subst (λ y. Reached line rest (job_stepped frame_taken y f)) (sym x.same) (one stays line noticed f rest (among f (inl refl)) x.states x.at x.over x.events x.phase x.stage))
      (subst (λ (y : Kept × DialResult). AllAt RestsIf (job_stepped frame_taken y f).0.0) (sym x.same)
      (one_rests f rest x.states x.at x.over x.events x.phase x.stage (subst (λ (y : Kept × DialResult). AllAt RestsIf y.0.0) x.same all)))

  -- after all of them
  pub frames_rest : (frames : List Frame) → ((f : Frame) → Has f frames → Has f line.all) → (states : Kept) (s : DialResult) → Reached line frames (states, s) → AllAt RestsIf states.0 → AllAt RestsIf (after_job (frames_taken frames s) states.0 states.1).0.0
  unfolding frames_taken
  frames_rest frames among states s x all = subst (λ (y : Kept × DialResult). AllAt RestsIf y.0.0) (sym (after_job_fold frame_taken frames (Ended s) states.0 states.1)) (rests_frames frames among (states, s) x all)
