-- the streams of other vBuckets stay as they are
use Rattle.std.proofs.Common.{◌≡◌, ◌≢◌, ℕ, Bool, true, false, List, [], ◌∷◌, ◌++◌, map, refl, sym, ap, ◌∙◌, append-nil, arith}
use Rattle.std.specs.Prelude.{if◌then◌else◌, ◌==◌, ◌&&◌, not}
use Rattle.std.specs.List.{filter, list_any}
use Rattle.std.proofs.lemmas.Bool.Decides.{nat_tests}
use Rattle.std.proofs.lemmas.List.Elements.{filter-append}
use Rattle.mcbp_frame.specs.declared.frame.Frame.{Frame}
use Rattle.mcbp_frame.specs.declared.frame.TheConstants.{RESPONSE}
use Rattle.vb_calls.specs.Programs.{AnyCall, Always}
use Rattle.dcp_producer.specs.Producers.{PlainStream, PlainProducer, Served, without_stream}
use Rattle.dcp_producer.specs.Serving.{frame_answered, new_stream, next_stream}
use Rattle.dcp_producer.specs.Ending.{ended_in}
use Rattle.dcp_producer.specs.Apart.{elsewhere, LeavesOthers, EndsNoOthers}
use Rattle.dcp_producer.specs.Having.{IsSound, IsStreamOf}
use Rattle.dcp_producer.specs.Closing.{Leaves}
use Rattle.dcp_producer.proofs.Answering.{Stays, stays_answered}
use Rattle.dcp_producer.proofs.Closing.{leaves_out}

abbrev those : ℕ → List PlainStream → List PlainStream
those v xs = filter (λ stream. not (stream.vb == v)) xs

-- one of the vBucket itself is none of them
itself : (v : ℕ) (x : PlainStream) (xs : List PlainStream) → x.vb ≡ v → those v (x ∷ xs) ≡ those v xs
itself v x xs is = let e : (x.vb == v) ≡ true = grind (arith, nat_tests, is) in ap (λ b. if not b then x ∷ those v xs else those v xs) e

between : (v : ℕ) (front : List PlainStream) (x : PlainStream) (back : List PlainStream) → x.vb ≡ v → those v (front ++ x ∷ back) ≡ those v (front ++ back)
between v front x back is =
    filter-append (λ (stream : PlainStream). not (stream.vb == v)) front (x ∷ back) ∙ ap (λ ys. those v front ++ ys) (itself v x back is)
    ∙ sym (filter-append (λ (stream : PlainStream). not (stream.vb == v)) front back)

module _ (f : Frame) (s : Served) (sound : IsSound s.end) (asks : f.magic ≢ RESPONSE) where
  abbrev v : ℕ
  v = f.vb_or_status

  abbrev Same : PlainProducer → Type 0
  Same end = elsewhere v end ≡ elsewhere v s.end

  left_others : (stream : PlainStream) → IsStreamOf v stream s.end.streams → Same (without_stream stream.id s.end)
  left_others stream there =
      let leaves : Leaves stream s.end (without_stream stream.id s.end) = leaves_out s.end stream there.front there.back sound there.stands in
      ap (those v) leaves.left ∙ sym (between v leaves.front stream leaves.back there.of) ∙ ap (those v) (sym leaves.stood)

  stays : Stays Same f s.end
  stays = record {
    same = refl;
    shaken = λ h. refl;
    window = λ w. refl;
    asked = refl;
    opened = λ ask sync from none. between v s.end.streams (new_stream (next_stream s.end) f ask sync from) [] refl ∙ ap (those v) (append-nil s.end.streams);
    taken = λ is. absurd (asks is);
    without = left_others;
  }

  pub apart_answers : Always AnyCall (LeavesOthers f.vb_or_status s.end) (frame_answered f s)
  apart_answers = stays_answered Same f s stays

module _ (v : ℕ) (ids : List ℕ) where
  one_ended : (x : PlainStream) (xs ys : List PlainStream) → those v ys ≡ those v xs → (here named : Bool) → (x.vb == v) ≡ here
      → those v ((if here && named then record x { ended = true } else x) ∷ ys) ≡ those v (x ∷ xs)
  one_ended x xs ys same true true is =
      ap (λ b. if not b then record x { ended = true } ∷ those v ys else those v ys) is ∙ same ∙ sym (ap (λ b. if not b then x ∷ those v xs else those v xs) is)
  one_ended x xs ys same true false is = λ i. if not (x.vb == v) then x ∷ same i else same i
  one_ended x xs ys same false named is = λ i. if not (x.vb == v) then x ∷ same i else same i

  all_ended : (xs : List PlainStream) → those v (map (ended_in v ids) xs) ≡ those v xs
  all_ended [] = refl
  all_ended (x ∷ xs) = one_ended x xs (map (ended_in v ids) xs) (all_ended xs) (x.vb == v) (list_any (λ i. i == x.id) ids) refl

  pub apart_ended : (end : PlainProducer) → EndsNoOthers v ids end
  apart_ended end = all_ended end.streams
