-- ends of clients' streams, judged by hand
use Rattle.std.proofs.Common.{List, [], ap, arith, refl, subst, sym, true, false, ℕ, ◌++◌, ◌∙◌, ◌∷◌, ◌≡◌, ◌≤◌}
use Rattle.std.specs.Prelude.{Some}
unfoldable use Rattle.mcbp_dcp.specs.DcpFrames.{dcp_frame}
use Rattle.mcbp_dcp.specs.declared.message.DcpMsg.TheVariants as msg
unfoldable use Rattle.mcbp_frame.specs.Spelling.{spelling}
use Rattle.vb_types.specs.declared.role.Role.TheVariants as role
use Rattle.vb_events.specs.declared.event.Event.{Event}
use Rattle.transcript_law.specs.ClientStreamRows.{LawfulPut, all_changes, ended, first_item, frame_of, fresh, inside, next_item, one, other_turned, put_three, put_two, snapshot, third_item, three, turned, turned_elsewhere, two, up_to, with_streams}
use Rattle.transcript_law.specs.ClientStreams.{ClientKnown, ClientStream, past_turn, vb_in_header, with_turn}
use Rattle.flow_control.specs.Windows.{is_open as lets_through}
use Rattle.transcript_law.specs.LawfulClients.{EndsAs, LawfulClientEnd}
use Rattle.transcript_law.specs.Questions.{flow_now}
use Rattle.transcript_law.specs.StreamLaws.{IsFrontOf, IsWholeIf}
use Rattle.transcript_law.proofs.rows.ClientStreams.{◌▹◌, all_between, none_counted, put_by, stream_is}
use Rattle.transcript_law.proofs.rows.ClientStreamItems.{dead_now}
use Rattle.transcript_law.proofs.rows.ClientStreamMarks.{part_put}

pub header : (reason : ℕ) → vb_in_header (spelling (dcp_frame (msg.StreamEnd reason) 9 0)) ≡ 0
unfolding spelling dcp_frame
header reason = refl

-- an end of a stream that ends so, before other lines
pub end_put : (known : ClientKnown) (reason : ℕ) (g : ClientStream) (more : List Event) → known.streams 0 ≡ Some g → g.opaque ≡ 9 → known.bytes ≡ [] → lets_through (flow_now known).window ≡ true → g.over ≡ false → IsWholeIf g.last → EndsAs g.turned g reason → LawfulClientEnd known 0 1 reason (frame_of 0 (msg.StreamEnd reason) ∷ more)
end_put known reason g more is nine silent through opens whole cause = record { put = put_by known (msg.StreamEnd reason) 0 g more (header reason) is nine silent through; opens = opens; whole = whole; cause = cause }

-- what an end is judged by
module _ (known : ClientKnown) (reason : ℕ) (g : ClientStream) (more : List Event) (is : known.streams 0 ≡ Some g) (l : LawfulClientEnd known 0 1 reason (frame_of 0 (msg.StreamEnd reason) ∷ more)) where
  stream_of_end : l.put.stream ≡ g
  stream_of_end = stream_is known (msg.StreamEnd reason) (msg.StreamEnd reason) 0 g more (header reason) is l.put

  cause_of : EndsAs g.turned g reason
  cause_of = subst (λ (h : ClientStream). EndsAs h.turned h reason) stream_of_end l.cause

  pub whole_of : IsWholeIf g.last
  whole_of = subst (λ (h : ClientStream). IsWholeIf h.last) stream_of_end l.whole

-- the streams that were put all of a snapshot up to where they were asked for, or above

abbrev all_put : ClientStream
all_put = inside true (up_to 2) two 0 2 (first_item ∷ next_item ∷ [])

abbrev more_put : ClientStream
more_put = inside true (up_to 2) three 0 3 (first_item ∷ next_item ∷ third_item ∷ [])

pub both_whole : IsFrontOf (snapshot two 0 2 (first_item ∷ next_item ∷ [])) (first_item ∷ next_item ∷ []) []
both_whole = record { whole = two; covers = all_between two 0 2 (omega arith) (omega arith, (omega arith, omega arith)) refl; front = refl }

three_whole : IsFrontOf (snapshot three 0 3 (first_item ∷ next_item ∷ third_item ∷ [])) (first_item ∷ next_item ∷ third_item ∷ []) []
three_whole = record { whole = three; covers = all_between three 0 3 (omega arith) (omega arith, (omega arith, (omega arith, omega arith))) refl; front = refl }

part_whole : IsFrontOf (snapshot three 0 2 (first_item ∷ next_item ∷ [])) (first_item ∷ next_item ∷ []) []
part_whole = record { whole = two; covers = all_between three 0 2 (omega arith) (omega arith, (omega arith, omega arith)) refl; front = refl }

pub all_sent : LawfulPut two (one all_put) (ended 0 0)
all_sent = end_put (with_streams (one all_put)) 0 all_put [] refl refl refl (none_counted (with_streams (one all_put)) refl refl) refl both_whole (refl, omega arith) ▹ (λ z. cc) ▹ tt

pub above : LawfulPut three (one more_put) (ended 0 0)
above = end_put (with_streams (one more_put)) 0 more_put [] refl refl refl (none_counted (with_streams (one more_put)) refl refl) refl three_whole (refl, omega arith) ▹ (λ z. cc) ▹ tt

pub early : LawfulPut three (one (put_three (up_to 3))) (ended 0 0) → ⊥
early l = let e : ◌≤◌ 3 2 = (cause_of (with_streams (one (put_three (up_to 3)))) 0 (put_three (up_to 3)) [] refl l.0).1 in omega (arith, e)

pub unasked : LawfulPut three (one put_two) (ended 0 0) → ⊥
unasked l = let e : put_two.ask.end ≤ 2 = (cause_of (with_streams (one put_two)) 0 put_two [] refl l.0).1 in omega (arith, e)

pub unbegun : LawfulPut two (one (fresh true (up_to 0))) (ended 0 0) → ⊥
unbegun l = (cause_of (with_streams (one (fresh true (up_to 0)))) 0 (fresh true (up_to 0)) [] refl l.0).1

pub part : LawfulPut three (one (inside true (up_to 2) three 0 2 (first_item ∷ []))) (ended 0 0) → ⊥
part l = part_put (whole_of (with_streams (one (inside true (up_to 2) three 0 2 (first_item ∷ [])))) 0 (inside true (up_to 2) three 0 2 (first_item ∷ [])) [] refl l.0)

pub turns : LawfulPut three (one put_two) (turned role.Dead ∷ ended 0 2)
turns = dead_now refl ▹ end_put (past_turn 0 three (with_streams (one put_two))) 2 (with_turn three put_two) [] refl refl refl (none_counted (past_turn 0 three (with_streams (one put_two))) refl refl) refl part_whole refl ▹ (λ z. cc) ▹ tt

pub turns_early : LawfulPut three (one (fresh true all_changes)) (turned role.Dead ∷ ended 0 2)
turns_early = dead_now refl ▹ end_put (past_turn 0 three (with_streams (one (fresh true all_changes)))) 2 (with_turn three (fresh true all_changes)) [] refl refl refl (none_counted (past_turn 0 three (with_streams (one (fresh true all_changes)))) refl refl) refl tt refl ▹ (λ z. cc) ▹ tt

pub turns_sent : LawfulPut three (one (put_three (up_to 2))) (turned role.Dead ∷ ended 0 0) → ⊥
turns_sent l = let e : ◌≡◌ {A = ℕ} 0 2 = cause_of (past_turn 0 three (with_streams (one (put_three (up_to 2))))) 0 (with_turn three (put_three (up_to 2))) [] refl l.1.0 in omega (arith, e)

pub other_turns : LawfulPut three (one put_two) (other_turned role.Dead ∷ ended 0 2) → ⊥
other_turns l = let e : ◌≡◌ {A = ℕ} 2 0 = (cause_of (past_turn 1 three (with_streams (one put_two))) 2 put_two [] refl l.1.0).0 in omega (arith, e)

pub turns_elsewhere : LawfulPut three (one put_two) (turned_elsewhere role.Dead ∷ ended 0 2) → ⊥
turns_elsewhere l = let e : ◌≡◌ {A = ℕ} 2 0 = (cause_of (with_streams (one put_two)) 2 put_two [] refl l.1.0).0 in omega (arith, e)

pub stays : LawfulPut three (one (put_three (up_to 2))) (ended 0 2) → ⊥
stays l = let e : ◌≡◌ {A = ℕ} 2 0 = (cause_of (with_streams (one (put_three (up_to 2)))) 2 (put_three (up_to 2)) [] refl l.0).0 in omega (arith, e)

pub twice : LawfulPut three (one (put_three (up_to 2))) (ended 0 0 ++ ended 0 0) → ⊥
unfolding spelling dcp_frame
twice l =
    let is : l.1.1.0.put.stream ≡ record (put_three (up_to 2)) { over = true } = stream_of_end _ 0 (record (put_three (up_to 2)) { over = true }) [] refl l.1.1.0 in
    let e : true ≡ false = sym (ap (λ (g : ClientStream). g.over) is) ∙ l.1.1.0.opens in cc
