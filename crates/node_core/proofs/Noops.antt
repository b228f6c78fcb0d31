-- which NOOPs a dial answers, and what else comes of them
use Rattle.std.proofs.Common.{◌≡◌, ℕ, Bool, true, false, List, [], ◌∷◌, ◌++◌, refl, sym, subst, ap, ◌∙◌, arith, append_assoc, append-nil, None, inl, inr}
use Rattle.std.specs.Prelude.{◌==◌, ◌||◌, if◌then◌else◌}
use Rattle.std.specs.List.{fold, All, flat_map}
use Rattle.std.proofs.lemmas.Bool.{or_right}
use Rattle.std.proofs.lemmas.List.Elements.{All-nil, All-cons, All-head, All-tail}
use Rattle.std.proofs.lemmas.List.Sums.{fold-append}
use Rattle.mcbp_frame.specs.declared.frame.Frame.{Frame}
use Rattle.mcbp_frame.specs.Cutting.{front_fault, frames_in, left_of}
use Rattle.vb_calls.specs.Jobs.{Job, Ended, Call, Request, bind_job, next_job, each_job}
use Rattle.dcp_consumer.specs.declared.handshake.ConsumerStep.{ConsumerStep}
use Rattle.dcp_consumer.specs.Counting.{counted_bytes, bytes_acknowledged}
use Rattle.dcp_consumer.specs.Machine.{PlainConsumer, over_why}
use Rattle.dcp_consumer.specs.Noops.{noop_answered, IsNoop}
use Rattle.dcp_consumer.proofs.Noops.{answered, uncounted}
use Rattle.node_core.specs.Conduct.{AnswersNoops, AreNoopsOf}
use Rattle.node_core.specs.Dials.{PlainDial, DialResult, untold, is_over, with_consumer, with_left, noop_met, step_made, frame_taken, frames_taken, fault_met, bytes_counted, with_end_line, with_last_line, rest_met, bytes_taken, dial_bytes}
use Rattle.node_core.proofs.Conduct.{skipped}
use Rattle.node_core.proofs.Acknowledging.{not_some}
use Rattle.node_core.proofs.Deliveries.{some_more}

-- ---- jobs for some, and then for others

ends_itself : {A : Type 0} (job : Job A) → bind_job job (λ a. Ended a) ≡ job
ends_itself (Ended a) = refl
ends_itself (Call v call next) = λ i. Call v call (λ reply. ends_itself (next reply) i)
ends_itself (Request v ask next) = λ i. Request v ask (λ got. ends_itself (next got) i)

one_by_one : {A B C : Type 0} (job : Job A) (k : A → Job B) (l : B → Job C) → bind_job (bind_job job k) l ≡ bind_job job (λ a. bind_job (k a) l)
one_by_one (Ended a) k l = refl
one_by_one (Call v call next) k l = λ i. Call v call (λ reply. one_by_one (next reply) k l i)
one_by_one (Request v ask next) k l = λ i. Request v ask (λ got. one_by_one (next got) k l i)

each_behind : {X A : Type 0} (f : X → A → Job A) (xs : List X) (job : Job A) → fold (next_job f) job xs ≡ bind_job job (λ a. each_job f xs a)
each_behind f [] job = sym (ends_itself job)
each_behind f (x ∷ xs) job =
    each_behind f xs (bind_job job (f x)) ∙ one_by_one job (f x) (λ b. each_job f xs b) ∙ (λ i. bind_job job (λ a. sym (each_behind f xs (f x a)) i))

-- ---- a NOOP in its place

module _ (f : Frame) (is : IsNoop f) where
  -- the dial answers it, unless its link is over
  abbrev noop_if : DialResult → DialResult
  noop_if t = if is_over t.dial then t else noop_met f.opaque t

  going : (t : DialResult) → over_why t.dial.consumer.handshake ≡ None → frame_taken f t ≡ Ended (noop_met f.opaque t)
  unfolding frame_taken
  going t goes = ap (λ (x : PlainConsumer × ConsumerStep). step_made x.1 (with_consumer t x.0)) (answered t.dial.consumer f goes is)

  one : (t : DialResult) → frame_taken f t ≡ Ended (noop_if t)
  one t = by (is_over t.dial) refl
    where
      by : (b : Bool) → is_over t.dial ≡ b → frame_taken f t ≡ Ended (if b then t else noop_met f.opaque t)
      by true over = skipped f t over
      by false goes = going t (not_some (over_why t.dial.consumer.handshake) goes)

  pub place : (before behind : List Frame) (s : DialResult) → frames_taken (before ++ f ∷ behind) s ≡ bind_job (frames_taken before s) (λ t. frames_taken behind (noop_if t))
  unfolding frames_taken
  place before behind s =
      fold-append (next_job frame_taken) (Ended s) before (f ∷ behind)
      ∙ each_behind frame_taken (f ∷ behind) (each_job frame_taken before s)
      ∙ (λ i. bind_job (each_job frame_taken before s) (λ t. fold (next_job frame_taken) (one t i) behind))

-- ---- NOOPs alone

-- the answers to these
abbrev answers_to : List Frame → List ℕ
answers_to frames = flat_map (λ f. noop_answered f.opaque) frames

all_taken : (frames : List Frame) → All IsNoop frames → (s : DialResult) → over_why s.dial.consumer.handshake ≡ None → each_job frame_taken frames s ≡ Ended (record s { out = s.out ++ answers_to frames })
all_taken [] are s goes = λ i. Ended (record s { out = sym (append-nil s.out) i })
all_taken (f ∷ frames) are s goes =
    ap (λ job. fold (next_job frame_taken) job frames) (going f (All-head IsNoop f frames are) s goes)
    ∙ all_taken frames (All-tail IsNoop f frames are) (noop_met f.opaque s) goes
    ∙ (λ i. Ended (record s { out = append_assoc s.out (noop_answered f.opaque) (answers_to frames) i }))

-- none of them counts
none_counts : (frames : List Frame) → All IsNoop frames → counted_bytes frames ≡ 0
unfolding counted_bytes
none_counts [] are = refl
none_counts (f ∷ frames) are = omega (arith, some_more (f ∷ []) frames, uncounted f (All-head IsNoop f frames are), none_counts frames (All-tail IsNoop f frames are))

uncounted_rest : (frames : List Frame) (s : DialResult) → counted_bytes frames ≡ 0 → bytes_counted frames s ≡ s
unfolding bytes_counted
uncounted_rest frames s none =
    ap (λ b. if b then s else record s { out = s.out ++ bytes_acknowledged (counted_bytes frames) s.dial.consumer })
    (or_right (is_over s.dial || s.dial.consumer.dialed.buffer == 0) (counted_bytes frames == 0) (ap (λ n. n == 0) none))

pub alone : (piece : List ℕ) (dial : PlainDial) → over_why dial.consumer.handshake ≡ None → All IsNoop (frames_in (dial.heard ++ piece)) → front_fault (left_of (dial.heard ++ piece)) ≡ None
    → dial_bytes piece dial ≡ Ended (record { dial = record dial { heard = left_of (dial.heard ++ piece) }; events = []; out = answers_to (frames_in (dial.heard ++ piece)) })
unfolding bytes_taken frames_taken
alone piece dial goes are whole =
    let bytes : List ℕ = dial.heard ++ piece in
    let frames : List Frame = frames_in bytes in
    let s : DialResult = with_left (untold dial) bytes in
    let told : DialResult = record s { out = answers_to frames } in
    ap (λ job. bind_job job (rest_met frames)) (all_taken frames are s goes)
    ∙ ap (λ fault. Ended (with_last_line (bytes_counted frames (fault_met fault told)))) whole
    ∙ ap (λ t. Ended (with_last_line t)) (uncounted_rest frames told (none_counts frames are))
    ∙ ap (λ why. Ended (with_end_line why told)) goes

-- ---- where no frame is a NOOP, none is answered

pub none_are : (frames : List Frame) (noops : List ℕ) → All (λ f. IsNoop f → ⊥) frames → AreNoopsOf frames noops → noops ≡ []
none_are [] noops none are = are
none_are (f ∷ frames) noops none (inl (is, rest)) = absurd (All-head (λ f. IsNoop f → ⊥) f frames none is)
none_are (f ∷ frames) noops none (inr (never, rest)) = none_are frames noops (All-tail (λ f. IsNoop f → ⊥) f frames none) rest

first_none : (taken behind : List Frame) → All (λ f. IsNoop f → ⊥) (taken ++ behind) → All (λ f. IsNoop f → ⊥) taken
first_none [] behind none = All-nil (λ f. IsNoop f → ⊥)
first_none (f ∷ taken) behind none =
    All-cons (λ f. IsNoop f → ⊥) f taken (All-head (λ f. IsNoop f → ⊥) f (taken ++ behind) none) (first_none taken behind (All-tail (λ f. IsNoop f → ⊥) f (taken ++ behind) none))

pub none_answered : (frames : List Frame) (dial : PlainDial) (noops : List ℕ) → All (λ f. IsNoop f → ⊥) frames → AnswersNoops frames dial noops → noops ≡ []
none_answered frames dial noops none (taken, behind, are, own, all) = none_are taken noops (first_none taken behind (subst (All (λ f. IsNoop f → ⊥)) are none)) own
