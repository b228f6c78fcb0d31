-- a stream's cursor that is taken away
use Rattle.std.proofs.Common.{◌≡◌, ℕ, Bool, true, false, List, [], ◌∷◌, refl, sym, ap, ◌∙◌, subst, Option, Some, None}
use Rattle.std.proofs.lemmas.Bool.{false≢true}
use Rattle.std.specs.Prelude.{if◌then◌else◌}
use Rattle.vb_calls.specs.declared.calls.VbAnswer.{VbAnswer}
use Rattle.vb_calls.specs.declared.calls.VbAnswer.TheVariants as answer
use Rattle.vb_calls.specs.declared.calls.VbCall.TheVariants as call
use Rattle.vb_calls.specs.declared.calls.VbReply.{VbReply}
use Rattle.vb_calls.specs.Programs.{Done, Call, Made, Told}
use Rattle.dcp_producer.specs.Dropping.{DropsIt, cursor_dropped, cursor_dropped_of, flag_said, flag_told}
use Rattle.dcp_producer.specs.Having.{IsStreamOf, NoneOf}
use Rattle.dcp_producer.specs.Producers.{PlainProducer, PlainStream}
use Rattle.dcp_producer.proofs.Finding.{found_at, none_at}

is_told : (a : VbAnswer) → flag_told a ≡ true → a ≡ answer.Flag true
is_told (answer.Flag had) is = ap answer.Flag is
is_told other is = absurd (false≢true is)

module _ (v : ℕ) (stream : PlainStream) (of : stream.vb ≡ v) where
  abbrev one_call : Option VbReply → List Made
  one_call reply = (v, call.DropCursor stream.id, reply) ∷ []

  -- one call, of which the reply says whether it had one
  had_by : (m : Made) (had : Bool) (o : Option VbReply) → m.2 ≡ o → had ≡ flag_said o → had ≡ true
      → (r : VbReply) × (one_call m.2 ≡ one_call (Some r)) × (r.answer ≡ answer.Flag true)
  had_by m had None is says e = absurd (false≢true (sym says ∙ e))
  had_by m had (Some r) is says e = (r, ap one_call is, is_told r.answer (sym says ∙ e))

  abbrev reply_of : List Made → Option VbReply
  reply_of [] = None
  reply_of (m ∷ made) = m.2

  by_ended : (b : Bool) → stream.ended ≡ b → (made : List Made) (had : Bool)
      → Told (if b then Done false else Call stream.vb (call.DropCursor stream.id) (λ reply. Done (flag_said reply))) made had → DropsIt v stream made had
  by_ended true is [] had told = record {
    told = λ alive. absurd (false≢true (sym alive ∙ is));
    untold = λ ended. refl;
    answers = (λ e. absurd (false≢true (sym told ∙ e)), λ it. absurd (cc it.1));
  }
  by_ended true is (m ∷ made) had told = absurd told
  by_ended false is [] had told = absurd told
  by_ended false is (m ∷ []) had (at, asked, told) =
      let made : m ∷ [] ≡ one_call m.2 = λ i. ((at ∙ of) i, asked i, m.2) ∷ [] in record {
        told = λ alive. (m.2, made);
        untold = λ ended. absurd (false≢true (sym is ∙ ended));
        answers = (
          λ e. let (r, one, says) = had_by m had m.2 refl told e in (r, made ∙ one, says),
          λ it. told ∙ ap (λ ms. flag_said (reply_of ms)) it.1 ∙ ap flag_told it.2,
        );
      }
  by_ended false is (m ∷ n ∷ made) had (at, asked, told) = absurd told

module _ (v : ℕ) (end : PlainProducer) (made : List Made) (had : Bool) (told : Told (cursor_dropped v end) made had) where
  pub drops_it : (stream : PlainStream) → IsStreamOf v stream end.streams → DropsIt v stream made had
  drops_it stream there = by_ended v stream there.of stream.ended refl made had (subst (λ o. Told (cursor_dropped_of o) made had) (found_at v stream end.streams there) told)

  none_by : (ms : List Made) → Told (Done false) ms had → (ms ≡ []) × (had ≡ false)
  none_by [] says = (refl, says)
  none_by (m ∷ ms) says = absurd says

  pub drops_none : NoneOf v end.streams → (made ≡ []) × (had ≡ false)
  drops_none none = none_by made (subst (λ o. Told (cursor_dropped_of o) made had) (none_at v end.streams none) told)
