-- what a vBucket says and does that is asked where the changes of a stream come from, and what it says then
use Rattle.std.proofs.Common.{◌≡◌, ◌⊎◌, ℕ, Bool, true, false, map, inl, inr, refl, sym, ap, ◌∙◌, arith, Option, Some, None}
use Rattle.std.specs.Prelude.{option_map}
use Rattle.std.proofs.lemmas.Bool.Decides.{nat_tests}
use Rattle.vb_types.specs.declared.stream.Place.{Place}
use Rattle.vb_types.specs.declared.stream.Place.TheVariants as place
use Rattle.vb_calls.specs.declared.calls.VbAnswer.{VbAnswer}
use Rattle.vb_calls.specs.declared.calls.VbAnswer.TheVariants as answer
use Rattle.vb_calls.specs.declared.calls.VbCall.TheVariants as call
use Rattle.vb_calls.specs.declared.calls.VbReply.{VbReply}
use Rattle.vb_calls.specs.declared.stream.Stream.{Stream}
use Rattle.vb_calls.specs.Plain.{Plain}
use Rattle.vb_calls.specs.States.{States, call_at, states_step, with_vb_at}
use Rattle.vb_calls.specs.Streams.{given_cursor, is_in_memory, place_from, place_reply, placed_by, stream_at}
use Rattle.vb_calls.proofs.Placing.{found_id, place_again, with_itself}
use Rattle.dcp_producer.specs.Frames.{place_said, place_told}
use Rattle.dcp_producer.specs.AskingAll.{GivesCursor}
use Rattle.dcp_producer.specs.Producers.{PlainStream}

-- ---- what it says

-- once more it says memory, where it was the journal, as the stream has a cursor since then
abbrev said_again : VbAnswer → VbReply → VbReply
said_again (answer.Placed (place.Backfill end)) reply = place_reply place.Memory
said_again other reply = reply

abbrev memory_if : VbReply → VbReply
memory_if reply = said_again reply.answer reply

-- the vBuckets of a node that were asked so change nothing any more
pub places_settle : (states : States) (v id : ℕ) → states_step (states_step states v (call.Place id)).0 v (call.Place id) ≡ ((states_step states v (call.Place id)).0, option_map memory_if (states_step states v (call.Place id)).1)
places_settle states v id = place_again states v id ∙ ap (λ (o : Option VbReply). ((states_step states v (call.Place id)).0, o)) (sym (by (states v)))
  where
    given : (vb : Plain) (s : Stream) (c m : Bool) → memory_if (placed_by c m s vb).1 ≡ (placed_by c m s vb).1
    given vb s true m = refl
    given vb s false false = refl
    given vb s false true = refl

    found : (vb : Plain) (o : Option Stream) → memory_if (place_from o vb).1 ≡ (place_from o vb).1
    found vb None = refl
    found vb (Some s) = given vb s s.cursor (is_in_memory vb s.place)

    by : (o : Option Plain) → option_map memory_if (call_at states v (call.Place id) o).1 ≡ (call_at states v (call.Place id) o).1
    by None = refl
    by (Some vb) = ap Some (found vb (stream_at id vb.streams))

-- the same of where it says that changes come from
abbrev pub memory_then : Option Place → Option Place
memory_then None = None
memory_then (Some place.Memory) = Some place.Memory
memory_then (Some (place.Backfill end)) = Some place.Memory
memory_then (Some place.WaitSaved) = Some place.WaitSaved

pub said_then : (reply : Option VbReply) → place_said (option_map memory_if reply) ≡ memory_then (place_said reply)
said_then None = refl
said_then (Some reply) = by reply.answer refl
  where
    by : (a : VbAnswer) → reply.answer ≡ a → place_told (said_again a reply).answer ≡ memory_then (place_told a)
    by (answer.Status st) is = ap place_told is
    by answer.Absent is = ap place_told is
    by answer.Nothing is = ap place_told is
    by answer.Done is = ap place_told is
    by (answer.Flag b) is = ap place_told is
    by (answer.Num n) is = ap place_told is
    by (answer.Dues seq saved) is = ap place_told is
    by (answer.Branch uuid parent fork high) is = ap place_told is
    by (answer.Found doc) is = ap place_told is
    by (answer.Stored uuid seq cas) is = ap place_told is
    by (answer.Prepared seq cas) is = ap place_told is
    by (answer.Asked said log high) is = ap place_told is
    by (answer.Opened log high from) is = ap place_told is
    by (answer.Placed place.Memory) is = ap place_told is
    by (answer.Placed (place.Backfill end)) is = refl
    by (answer.Placed place.WaitSaved) is = ap place_told is
    by (answer.Taken snapshot) is = ap place_told is
    by (answer.Rows batch) is = ap place_told is
    by (answer.Stat windows items cursors saved high) is = ap place_told is
    by (answer.Named ask) is = ap place_told is
    by (answer.Range ss se) is = ap place_told is
    by (answer.Logged log) is = ap place_told is
    by (answer.Shown role uuid ss se at image) is = ap place_told is

-- ---- what it leaves

-- its vBucket may have given it a cursor
abbrev pub MayGive : PlainStream → States → States → Type 0
MayGive stream states left = (left ≡ states) ⊎ GivesCursor stream states left

-- where it is asked where its changes come from
module _ (stream : PlainStream) (states : States) where
  pub may_give : MayGive stream states (states_step states stream.vb (call.Place stream.id)).0
  may_give = by (states stream.vb) refl
    where
      given : (vb : Plain) → states stream.vb ≡ Some vb → (s : Stream) → stream_at stream.id vb.streams ≡ Some s → (c m : Bool) → s.cursor ≡ c → is_in_memory vb s.place ≡ m
          → MayGive stream states (with_vb_at states stream.vb (placed_by c m s vb).0)
      given vb there s e true m has at = inl (with_itself states stream.vb vb there)
      given vb there s e false false has at = inl (with_itself states stream.vb vb there)
      given vb there s e false true has at = inr (record {
        vb = vb;
        vb_is = there;
        open_one = (s, e, has, grind (arith, nat_tests, at));
        given = ap (λ n. with_vb_at states stream.vb (record vb { streams = map (given_cursor n) vb.streams })) (found_id stream.id vb.streams s e);
      })

      found : (vb : Plain) → states stream.vb ≡ Some vb → (o : Option Stream) → stream_at stream.id vb.streams ≡ o → MayGive stream states (with_vb_at states stream.vb (place_from o vb).0)
      found vb there None e = inl (with_itself states stream.vb vb there)
      found vb there (Some s) e = given vb there s e s.cursor (is_in_memory vb s.place) refl refl

      by : (o : Option Plain) → states stream.vb ≡ o → MayGive stream states (call_at states stream.vb (call.Place stream.id) o).0
      by None there = inl refl
      by (Some vb) there = found vb there (stream_at stream.id vb.streams) refl
