-- for what a vBucket refuses a client's request, judged by hand
use Rattle.std.proofs.Common.{List, [], arith, inl, inr, refl, subst, true, ℕ, ⊎_elim, ◌∙◌, ◌∷◌, ◌≡◌, ◌⊎◌, ◌≤◌, ◌<◌}
use Rattle.std.specs.Prelude.{Option, Some, None}
unfoldable use Rattle.mcbp_dcp.specs.DcpFrames.{dcp_frame}
unfoldable use Rattle.mcbp_dcp.specs.Messages.{read_of}
unfoldable use Rattle.mcbp_dcp.specs.Rows.{frame_row}
unfoldable use Rattle.mcbp_dcp.specs.Shapes.{shape_fault}
unfoldable use Rattle.mcbp_frame.specs.Cutting.{frames_in}
unfoldable use Rattle.mcbp_frame.specs.Frames.{first_frame, frame_of}
unfoldable use Rattle.mcbp_frame.specs.Spelling.{spelling}
use Rattle.vb_types.specs.declared.role.Role.{Role}
use Rattle.vb_types.specs.declared.role.Role.TheVariants as role
use Rattle.vb_types.specs.declared.stream.AskAnswer.{AskAnswer}
use Rattle.vb_types.specs.declared.stream.AskAnswer.TheVariants as ask_answer
use Rattle.vb_types.specs.declared.stream.StreamAsk.{StreamAsk}
use Rattle.transcript_law.specs.ClientAskRows.{LawfulAsked, asked, none, requesting, that_sent}
use Rattle.transcript_law.specs.ClientFrames.{Request, request_in, setup_after}
use Rattle.transcript_law.specs.ClientStreamRows.{all_changes, asks_for, one, open_setup, put_two, turned, two}
use Rattle.transcript_law.specs.ClientStreams.{ClientStream, STREAM_NUMBERS, past_turn, unclosed}
use Rattle.transcript_law.specs.LawfulClients.{InOrder, LacksNumber, RefusesAs, RefusesBy, RefusesOwn}
use Rattle.transcript_law.proofs.rows.Answering.{dcp_answer}
use Rattle.transcript_law.proofs.rows.ClientStreamAsks.{all_order, answer_of, no_stream, refuses}
use Rattle.transcript_law.proofs.rows.ClientStreamItems.{dead_now}
use Rattle.transcript_law.proofs.rows.ClientStreamStatuses.{finds, no_refusal, no_return, opens, same_code, same_request}
use Rattle.transcript_law.proofs.rows.ClientStreamVerdicts.{no_active}
use Rattle.transcript_law.proofs.rows.ClientStreams.{◌▹◌}

-- ---- by what an answer is judged

-- the answer to the request that was sent, on an open connection with these streams
pub judged_by : (count : ℕ) (streams : ℕ → Option ClientStream) (bytes : List ℕ) (vb : Option (Option Role)) (ask : StreamAsk) (said : AskAnswer) (q r : Request) → request_in bytes ≡ Some q → request_in bytes ≡ Some r → (setup_after open_setup r.before).opened ≡ true → ask.flags ≡ 0
    → RefusesBy (setup_after open_setup q.before) count vb (unclosed q.before streams 0) ask said → LacksNumber count said ⊎ ((count < STREAM_NUMBERS) × RefusesAs vb (unclosed r.before streams 0) ask said)
judged_by count streams bytes vb ask said q r is are opened plain by =
    let same : q ≡ r = same_request bytes q r is are in
    subst (λ had. LacksNumber count said ⊎ ((count < STREAM_NUMBERS) × RefusesAs vb had ask said)) (finds streams q r same) (by (opens open_setup q r same ∙ opened) plain)

-- where it asked for no stream before
judged : (streams : ℕ → Option ClientStream) (bytes : List ℕ) (vb : Option (Option Role)) (ask : StreamAsk) (said : AskAnswer) (q r : Request) → request_in bytes ≡ Some q → request_in bytes ≡ Some r → (setup_after open_setup r.before).opened ≡ true → ask.flags ≡ 0
    → RefusesBy (setup_after open_setup q.before) 0 vb (unclosed q.before streams 0) ask said → RefusesAs vb (unclosed r.before streams 0) ask said
judged streams bytes vb ask said q r is are opened plain by =
    ⊎_elim (λ e. let most : STREAM_NUMBERS ≤ 0 = e.0 in absurd (omega (arith, most))) (λ so. so.1) (judged_by 0 streams bytes vb ask said q r is are opened plain by)

-- a connection has nothing of its own against a refusal
pub no_own : (ask : StreamAsk) (code : ℕ) → ask.flags ≡ 0 → RefusesOwn open_setup None ask (ask_answer.Refuse code)
no_own ask code plain = record { unopened = λ e. cc; unknown = λ e. absurd (omega (arith, plain, e)); takeover = λ o e. absurd (omega (arith, plain, e)); held = λ g e o. cc }

-- ---- vBuckets that are not active

pub away : LawfulAsked (that_sent none (requesting 0 all_changes)) (turned role.Dead ∷ asked all_changes (ask_answer.Refuse 7))
unfolding spelling dcp_frame frames_in first_frame frame_of read_of frame_row shape_fault
away = dead_now refl ▹ record {
  own_node = refl;
  request = _;
  next = refl;
  numbers = refl;
  vb = refl;
  answered = record { own_log = refl; own_high = refl; verdict = λ e. omega (arith, e); active = tt };
  own = no_own all_changes 7 refl;
  reason = λ o z. inr (omega arith, record { away = λ off. refl; again = λ a g e x. absurd (no_active a); outside = λ a f wrong. absurd (no_active a); granted = λ a f i is. absurd (no_active a) });
  frame = ([], refl);
} ▹ (λ z. dcp_answer (answer_of (ask_answer.Refuse 7)) refl refl refl refl refl refl (tt, refl)) ▹ tt

pub away_held : LawfulAsked (that_sent (one put_two) (requesting 0 all_changes)) (turned role.Dead ∷ asked all_changes (ask_answer.Refuse 2)) → ⊥
unfolding spelling dcp_frame frames_in first_frame frame_of read_of frame_row shape_fault
away_held l =
    let r = judged (past_turn 0 two (that_sent (one put_two) (requesting 0 all_changes))).streams (requesting 0 all_changes) _ all_changes (ask_answer.Refuse 2) l.1.0.request _ l.1.0.next refl refl refl l.1.0.reason in
    let e : ◌≡◌ {A = ℕ} 2 7 = same_code 2 7 (r.away no_active) in omega (arith, e)

pub away_order : LawfulAsked (that_sent none (requesting 0 (asks_for 0 2 2 1))) (turned role.Dead ∷ asked (asks_for 0 2 2 1) (ask_answer.Refuse 34)) → ⊥
unfolding spelling dcp_frame frames_in first_frame frame_of read_of frame_row shape_fault
away_order l =
    let r = judged (past_turn 0 two (that_sent none (requesting 0 (asks_for 0 2 2 1)))).streams (requesting 0 (asks_for 0 2 2 1)) _ (asks_for 0 2 2 1) (ask_answer.Refuse 34) l.1.0.request _ l.1.0.next refl refl refl l.1.0.reason in
    let e : ◌≡◌ {A = ℕ} 34 7 = same_code 34 7 (r.away no_active) in omega (arith, e)

pub active : LawfulAsked (that_sent none (requesting 0 all_changes)) (asked all_changes (ask_answer.Refuse 7)) → ⊥
unfolding spelling dcp_frame frames_in first_frame frame_of read_of frame_row shape_fault
active l =
    let r = judged none (requesting 0 all_changes) _ all_changes (ask_answer.Refuse 7) l.0.request _ l.0.next refl refl refl l.0.reason in
    let e : ◌≡◌ {A = ℕ} 7 2 = same_code 7 2 (r.granted refl no_stream all_order (7, refl)) in omega (arith, e)

-- ---- vBuckets of which there is a stream

pub held_away : LawfulAsked (that_sent (one put_two) (requesting 0 all_changes)) (asked all_changes (ask_answer.Refuse 7)) → ⊥
unfolding spelling dcp_frame frames_in first_frame frame_of read_of frame_row shape_fault
held_away l =
    let r = judged (one put_two) (requesting 0 all_changes) _ all_changes (ask_answer.Refuse 7) l.0.request _ l.0.next refl refl refl l.0.reason in
    let e : ◌≡◌ {A = ℕ} 7 2 = same_code 7 2 (r.again refl put_two refl refl) in omega (arith, e)

pub held_order : LawfulAsked (that_sent (one put_two) (requesting 0 (asks_for 0 2 2 1))) (asked (asks_for 0 2 2 1) (ask_answer.Refuse 34)) → ⊥
unfolding spelling dcp_frame frames_in first_frame frame_of read_of frame_row shape_fault
held_order l =
    let r = judged (one put_two) (requesting 0 (asks_for 0 2 2 1)) _ (asks_for 0 2 2 1) (ask_answer.Refuse 34) l.0.request _ l.0.next refl refl refl l.0.reason in
    let e : ◌≡◌ {A = ℕ} 34 2 = same_code 34 2 (r.again refl put_two refl refl) in omega (arith, e)

-- ---- numbers that are out of order

-- an answer to such a request is a refusal with 34 or 2
outside_by : {ask : StreamAsk} {said : AskAnswer} → RefusesAs (Some (Some role.Active)) None ask said → (InOrder ask → ⊥) → (said ≡ ask_answer.Refuse 34) ⊎ (said ≡ ask_answer.Refuse 2)
outside_by r wrong = r.outside refl no_stream wrong

no_go : (ask_answer.Go ≡ ask_answer.Refuse 34) ⊎ (ask_answer.Go ≡ ask_answer.Refuse 2) → ⊥
no_go x = ⊎_elim (λ e. no_refusal 34 e) (λ e. no_refusal 2 e) x

no_roll : (to : ℕ) → (ask_answer.Roll to ≡ ask_answer.Refuse 34) ⊎ (ask_answer.Roll to ≡ ask_answer.Refuse 2) → ⊥
no_roll to x = ⊎_elim (λ e. no_return to 34 e) (λ e. no_return to 2 e) x

-- a start above the end, below the snapshot and above it
above_end : InOrder (asks_for 0 2 2 1) → ⊥
above_end o = let e = o.0 in omega (arith, e)

pub outside : LawfulAsked (that_sent none (requesting 0 (asks_for 0 2 2 1))) (asked (asks_for 0 2 2 1) (ask_answer.Refuse 34))
unfolding spelling dcp_frame frames_in first_frame frame_of read_of frame_row shape_fault
outside = record {
  own_node = refl;
  request = _;
  next = refl;
  numbers = refl;
  vb = refl;
  answered = refuses _ (asks_for 0 2 2 1) 34 (omega arith);
  own = no_own (asks_for 0 2 2 1) 34 refl;
  reason = λ o z. inr (omega arith, record { away = λ off. absurd (off refl); again = λ a g e x. absurd (no_stream g e x); outside = λ a f wrong. inl refl; granted = λ a f order is. absurd (above_end order) });
  frame = ([], refl);
} ▹ (λ z. dcp_answer (answer_of (ask_answer.Refuse 34)) refl refl refl refl refl refl (tt, refl)) ▹ tt

pub outside_away : LawfulAsked (that_sent none (requesting 0 (asks_for 0 2 2 1))) (asked (asks_for 0 2 2 1) (ask_answer.Refuse 7)) → ⊥
unfolding spelling dcp_frame frames_in first_frame frame_of read_of frame_row shape_fault
outside_away l =
    let r = judged none (requesting 0 (asks_for 0 2 2 1)) _ (asks_for 0 2 2 1) (ask_answer.Refuse 7) l.0.request _ l.0.next refl refl refl l.0.reason in
    ⊎_elim (λ e. let n : ◌≡◌ {A = ℕ} 7 34 = same_code 7 34 e in omega (arith, n)) (λ e. let n : ◌≡◌ {A = ℕ} 7 2 = same_code 7 2 e in omega (arith, n)) (outside_by r above_end)

pub end_goes : LawfulAsked (that_sent none (requesting 0 (asks_for 0 2 2 1))) (asked (asks_for 0 2 2 1) ask_answer.Go) → ⊥
unfolding spelling dcp_frame frames_in first_frame frame_of read_of frame_row shape_fault
end_goes l = no_go (outside_by (judged none (requesting 0 (asks_for 0 2 2 1)) _ (asks_for 0 2 2 1) ask_answer.Go l.0.request _ l.0.next refl refl refl l.0.reason) (above_end))

pub end_rolls : LawfulAsked (that_sent none (requesting 0 (asks_for 0 3 3 2))) (asked (asks_for 0 3 3 2) (ask_answer.Roll 0)) → ⊥
unfolding spelling dcp_frame frames_in first_frame frame_of read_of frame_row shape_fault
end_rolls l = no_roll 0 (outside_by (judged none (requesting 0 (asks_for 0 3 3 2)) _ (asks_for 0 3 3 2) (ask_answer.Roll 0) l.0.request _ l.0.next refl refl refl l.0.reason) (λ o. let e = o.0 in omega (arith, e)))

pub below_goes : LawfulAsked (that_sent none (requesting 0 (asks_for 2 1 2 9))) (asked (asks_for 2 1 2 9) ask_answer.Go) → ⊥
unfolding spelling dcp_frame frames_in first_frame frame_of read_of frame_row shape_fault
below_goes l = no_go (outside_by (judged none (requesting 0 (asks_for 2 1 2 9)) _ (asks_for 2 1 2 9) ask_answer.Go l.0.request _ l.0.next refl refl refl l.0.reason) (λ o. let e = o.1 in omega (arith, e)))

pub below_rolls : LawfulAsked (that_sent none (requesting 0 (asks_for 2 1 3 9))) (asked (asks_for 2 1 3 9) (ask_answer.Roll 2)) → ⊥
unfolding spelling dcp_frame frames_in first_frame frame_of read_of frame_row shape_fault
below_rolls l = no_roll 2 (outside_by (judged none (requesting 0 (asks_for 2 1 3 9)) _ (asks_for 2 1 3 9) (ask_answer.Roll 2) l.0.request _ l.0.next refl refl refl l.0.reason) (λ o. let e = o.1 in omega (arith, e)))

pub above_goes : LawfulAsked (that_sent none (requesting 0 (asks_for 0 2 1 9))) (asked (asks_for 0 2 1 9) ask_answer.Go) → ⊥
unfolding spelling dcp_frame frames_in first_frame frame_of read_of frame_row shape_fault
above_goes l = no_go (outside_by (judged none (requesting 0 (asks_for 0 2 1 9)) _ (asks_for 0 2 1 9) ask_answer.Go l.0.request _ l.0.next refl refl refl l.0.reason) (λ o. let e = o.2 in omega (arith, e)))

pub above_rolls : LawfulAsked (that_sent none (requesting 0 (asks_for 0 4 3 9))) (asked (asks_for 0 4 3 9) (ask_answer.Roll 0)) → ⊥
unfolding spelling dcp_frame frames_in first_frame frame_of read_of frame_row shape_fault
above_rolls l = no_roll 0 (outside_by (judged none (requesting 0 (asks_for 0 4 3 9)) _ (asks_for 0 4 3 9) (ask_answer.Roll 0) l.0.request _ l.0.next refl refl refl l.0.reason) (λ o. let e = o.2 in omega (arith, e)))

-- ---- requests against which there is nothing

pub in_order : LawfulAsked (that_sent none (requesting 0 all_changes)) (asked all_changes (ask_answer.Refuse 34)) → ⊥
unfolding spelling dcp_frame frames_in first_frame frame_of read_of frame_row shape_fault
in_order l =
    let r = judged none (requesting 0 all_changes) _ all_changes (ask_answer.Refuse 34) l.0.request _ l.0.next refl refl refl l.0.reason in
    let e : ◌≡◌ {A = ℕ} 34 2 = same_code 34 2 (r.granted refl no_stream all_order (34, refl)) in omega (arith, e)

-- the number of the stream is another one's
pub numbered : LawfulAsked (that_sent none (requesting 0 all_changes)) (asked all_changes (ask_answer.Refuse 2))
unfolding spelling dcp_frame frames_in first_frame frame_of read_of frame_row shape_fault
numbered = record {
  own_node = refl;
  request = _;
  next = refl;
  numbers = refl;
  vb = refl;
  answered = refuses _ all_changes 2 (omega arith);
  own = no_own all_changes 2 refl;
  reason = λ o z. inr (omega arith, record { away = λ off. absurd (off refl); again = λ a g e x. refl; outside = λ a f wrong. inr refl; granted = λ a f order is. refl });
  frame = ([], refl);
} ▹ (λ z. dcp_answer (answer_of (ask_answer.Refuse 2)) refl refl refl refl refl refl (tt, refl)) ▹ tt

-- the connection has numbers left
pub unspent : LawfulAsked (that_sent none (requesting 0 all_changes)) (asked all_changes (ask_answer.Refuse 134)) → ⊥
unfolding spelling dcp_frame frames_in first_frame frame_of read_of frame_row shape_fault
unspent l =
    let r = judged none (requesting 0 all_changes) _ all_changes (ask_answer.Refuse 134) l.0.request _ l.0.next refl refl refl l.0.reason in
    let e : ◌≡◌ {A = ℕ} 134 2 = same_code 134 2 (r.granted refl no_stream all_order (134, refl)) in omega (arith, e)
