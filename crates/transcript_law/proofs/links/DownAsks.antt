-- a consumer whose requests are not all answered, or which was refused or sent back: what it comes to by the next frame
use Rattle.std.specs.Prelude.{◌≡◌, ◌<◌, ◌≤◌, ◌∷◌, ◌++◌}
use Rattle.transcript_law.proofs.Words.{ℕ, suc, List, [], append-nil, drop, drop-append-le, take, ap, sym, ◌∙◌, subst, arith, Option, Some, None, AskAnswer, DialResult, Ended, Event, Frame, StreamAsk, frame_taken, roll_back}
use Rattle.transcript_law.proofs.invariant.Agreement.{Asking, ConsumerIs, IsRefused, PointAgrees, RefusedYet, ServerIs, Wants, answer_frame}
use Rattle.transcript_law.proofs.links.{Downing.{Asker, Line, all_answers, end_of, past, so_far}, Firsts.{Next, behind_first, first_answers, first_count, next_answer, untaken, waits_after}, Requests.{answers_count, few_first, waits_asking, waits_next}, Taken.{first_taken, refused_taken, rolled_taken}}
use Rattle.dcp_consumer.specs.Machine.{answered}
use Rattle.dcp_consumer.specs.declared.handshake.Dialed.{Dialed}
use Rattle.dcp_consumer.specs.declared.handshake.Handshake.TheVariants as waiting
use Rattle.takeover.specs.TakingOver.{new_take_over}
use Rattle.vb_events.specs.declared.event.EndReason.TheVariants.{Refused}
use Rattle.vb_types.specs.declared.stream.AskAnswer.TheVariants as ask_answer

-- the answers and the refusal behind them, written as all answers
pub refused_all : (d : Dialed) (last : Frame) (seen : ℕ) → seen ≤ first_count d → drop seen (first_answers d) ++ last ∷ [] ≡ drop seen (all_answers d last) ++ []
refused_all d last seen few = sym (append-nil (drop seen (all_answers d last)) ∙ drop-append-le seen (first_answers d) (last ∷ []) (omega (arith, answers_count d)))

module _ (line : Line) where
  open line use {link}

  -- the dial of the link
  abbrev dialed : Dialed
  dialed = link.consumer.dialed

  -- one more answer was seen
  pub counted_consumer : (at : Asker) (seen : ℕ) → seen < first_count dialed → ConsumerIs (end_of line at None) seen → ConsumerIs (end_of line (past dialed.buffer at) None) (suc seen)
  counted_consumer at seen few x = record { waits = ap (answered dialed.buffer) x.waits ∙ waits_next dialed seen few; small = x.small }

  -- what is waited for after the first answers
  pub waits_last : (at : Asker) (seen : ℕ) → seen ≡ first_count dialed → ConsumerIs (end_of line at None) seen → at.waiting ≡ waiting.Asking
  waits_last at seen all x = x.waits ∙ ap (waits_after dialed) all ∙ waits_asking dialed

  pub asking_next : (fv : Wants) (ask : StreamAsk) (f : Frame) (at : Asker) (events : List Event) (up down more : List Frame) → down ≡ f ∷ more → Asking fv ask link.server (end_of line at None) up down
      → (frame_taken f (so_far line at None events) ≡ Ended (so_far line (past dialed.buffer at) None events)) × Asking fv ask link.server (end_of line (past dialed.buffer at) None) up more
  asking_next fv ask f at events up down more e x =
      let answers : List Frame = first_answers dialed in
      let d : drop x.seen (take x.answered answers) ≡ f ∷ more = sym x.said_is ∙ e in
      let i = untaken x.seen x.answered answers f more d in let below : x.seen < x.answered = i.0 in
      let few : x.seen < first_count dialed = few_first dialed x.seen f i.1 i.2 in (
        first_taken x.seen f i.1 (so_far line at None events) i.2 x.consumer.waits,
        record {
          no_stream = x.no_stream;
          fewer = x.fewer;
          asking = record {
            answered = x.answered;
            seen = suc x.seen;
            some_left = x.some_left;
            not_more = omega arith;
            server = x.server;
            consumer = counted_consumer at x.seen few x.consumer;
            asks = x.asks;
            untold = x.untold;
            asked_is = x.asked_is;
            said_is = sym (behind_first x.seen (take x.answered answers) f more d);
          };
        },
      )

  -- what becomes of a frame of a link that was refused or sent back: it is only counted, or it is that answer, and nothing is behind it
  pub data RefusedNext (f : Frame) (at : Asker) (events : List Event) (point : Option ℕ) (up more : List Frame) : Type 0 where
    IsCounted : frame_taken f (so_far line at None events) ≡ Ended (so_far line (past dialed.buffer at) None events) → RefusedYet point link.server (end_of line (past dialed.buffer at) None) up more → RefusedNext f at events point up more
    IsOver : frame_taken f (so_far line at None events) ≡ Ended (so_far line at (Some Refused) events) → RefusedNext f at events point up more
    IsBack : (to : ℕ) → point ≡ Some to → frame_taken f (so_far line at None events) ≡ roll_back to (so_far line at None events) → at.waiting ≡ waiting.Asking
        → ServerIs link.server dialed (first_count dialed) → link.server.streams ≡ [] → link.server.asked ≤ at.asked → at.taking ≡ new_take_over → up ≡ [] → more ≡ [] → RefusedNext f at events point up more

  pub refused_next : (f : Frame) (at : Asker) (events : List Event) (point : Option ℕ) (up down more : List Frame) → down ≡ f ∷ more → RefusedYet point link.server (end_of line at None) up down → RefusedNext f at events point up more
  refused_next f at events point up down more d x = by (next_answer (first_answers dialed) (first_count dialed) last f [] more x.seen (answers_count dialed) (let y : x.seen ≤ first_count dialed = x.not_more in omega arith) (sym (refused_all dialed last x.seen x.not_more) ∙ sym x.said_is ∙ d))
    where
      last : Frame
      last = answer_frame at.asked [] x.said

      s : DialResult
      s = so_far line at None events

      -- the answer itself
      by_said : (said : AskAnswer) → IsRefused said → PointAgrees said point → x.seen ≡ first_count dialed → answer_frame at.asked [] said ≡ f → [] ≡ more → RefusedNext f at events point up more
      by_said ask_answer.Go refused told all h e = absurd refused
      by_said (ask_answer.Roll to) refused told all h e = RefusedNext.IsBack to told
          (subst (λ y. frame_taken y s ≡ roll_back to s) h (rolled_taken to s refused (waits_last at x.seen all x.consumer)))
          (waits_last at x.seen all x.consumer) x.server x.no_stream x.fewer x.untold x.asked_is (sym e)
      by_said (ask_answer.Refuse code) refused told all h e = RefusedNext.IsOver (subst (λ y. frame_taken y s ≡ Ended (so_far line at (Some Refused) events)) h
          (refused_taken code s refused (waits_last at x.seen all x.consumer)))

      by : Next (first_answers dialed) (first_count dialed) last f [] more x.seen → RefusedNext f at events point up more
      by (Next.IsFirst others h e) =
          let few : x.seen < first_count dialed = few_first dialed x.seen f others h in
          RefusedNext.IsCounted (first_taken x.seen f others s h x.consumer.waits) (record {
            no_stream = x.no_stream;
            fewer = x.fewer;
            refusal = record {
              said = x.said;
              refused = x.refused;
              told = x.told;
              seen = suc x.seen;
              not_more = omega arith;
              server = x.server;
              consumer = counted_consumer at x.seen few x.consumer;
              untold = x.untold;
              asked_is = x.asked_is;
              said_is = sym (refused_all dialed last (suc x.seen) (omega arith) ∙ e);
            };
          })
      by (Next.IsLast all h e) = by_said x.said x.refused x.told all h e
      by (Next.IsBehind all e) = let y : x.seen ≤ first_count dialed = x.not_more in absurd (omega arith)
