-- what is kept stands for the plain vBucket after each call
use Rattle.std.proofs.Common.{◌≡◌, ℕ, ◌+◌, ◌<◌, Bool, true, false, List, [], ◌∷◌, ◌++◌, map, refl, sym, ap, subst, ◌∙◌, arith}
use Rattle.std.specs.Prelude.{Option, Some, None, is_some, if◌then◌else◌, nat_le, nat_lt, max, min, not, ◌&&◌, length}
use Rattle.std.specs.List.{filter, find, flat_map, fold}
use Rattle.std.specs.Option.{option_map}
use Rattle.std.proofs.lemmas.Bool.Decides.{nat_tests}
use Rattle.std.proofs.lemmas.List.Sums.{fold-append}
use Rattle.durability.specs.declared.waiting.Waiting.{Waiting}
use Rattle.vb_types.specs.Images.{Picture, applied}
use Rattle.vb_types.specs.declared.change.Act.{Act}
use Rattle.vb_types.specs.declared.change.Change.{Change}
use Rattle.vb_types.specs.declared.position.Position.{Position}
use Rattle.vb_types.specs.Histories.{Rises}
use Rattle.branch_model.specs.Logs.{kept_to}
use Rattle.vb_types.specs.declared.role.LogEntry.{LogEntry}
use Rattle.vb_types.specs.declared.role.Role.{Role}
use Rattle.vb_types.specs.declared.role.Role.TheVariants as role
use Rattle.vb_types.specs.declared.status.Status.{Status}
use Rattle.vb_types.specs.declared.status.Status.TheVariants as status
use Rattle.vb_types.specs.declared.stream.StreamAsk.{StreamAsk}
use Rattle.vb_types.specs.declared.stream.Verdict.{Verdict}
use Rattle.vb_types.specs.declared.stream.Verdict.TheVariants.{Continue, Roll}
use Rattle.vb_types.specs.declared.write.Write.{Write}
use Rattle.branch_model.specs.Requests.{rule}
use Rattle.vb_calls.specs.declared.calls.VbAnswer.TheVariants as answer
use Rattle.vb_calls.specs.declared.calls.VbReply.{VbReply}
use Rattle.vb_calls.specs.declared.span.Span.{Span}
use Rattle.vb_calls.specs.declared.span.Origin.{Origin}
use Rattle.vb_calls.specs.declared.span.Origin.TheVariants.{Own, Received}
use Rattle.vb_calls.specs.declared.stream.Stream.{Stream}
use Rattle.vb_calls.specs.Following.{adopt_row, ask_row, cas_of, completed_act, is_answerable, is_follower, is_next, marked_vb, marker_fits, marker_row, receive_as, receive_row, roll_row, rolled_vb, with_received_change}
use Rattle.vb_calls.specs.Roles.{ending_reply, in_role, is_role, pend_row, seal_row, turn_row, yield_row, yielded}
use Rattle.vb_calls.specs.Flushing.{flush_from, flush_row, stat_row, unflushed_span}
use Rattle.vb_calls.specs.State.{Plain, complete_position, get_row, newest_branch, pending_of, is_active, loaded_role, loaded_vb, log_row, new_vb, quiet_reply, refusal_reply, show_row}
use Rattle.vb_calls.specs.Spans.{Spans, all_spans, live_in, no_spans, span_position, with_seal}
use Rattle.vb_calls.specs.Streams.{close_row, end_span, is_in_memory, judged_open, moved_on, need_of, open_outcome, open_refusal, open_row, place_from, place_row, placed_by, snapshot_of, stream_at, take_from, take_row, take_to}
use Rattle.vb_calls.specs.Writes.{growth, key_refusal, lacks_seqnos, new_cas, store_outcome, store_refusal, store_row, write_change}
use Rattle.checkpoint.specs.Checkpoints.{ckpt_span}
use Rattle.cursor_set.specs.Cursors.{place_of}
use Rattle.ckpt_list.specs.Lists.{Ckpts, between, ckpts_at, held_of, queued, sealed_list, stop_of, window_at, window_of}
use Rattle.vbucket.specs.Kept.{Kept, SameChanges, SealedIf, kept_flush, kept_flush_from, kept_flush_to, floored, kept_growth, kept_open, kept_outcome, kept_place, kept_receive, kept_receive_as, kept_received, kept_roll, kept_rolled, kept_stat, kept_store, kept_take, kept_take_from, kept_take_to, restreamed}
use Rattle.vbucket.specs.Laws.{AllSpans, AreSpanned, Follow, OpensOwn}
use Rattle.vbucket.specs.Stands.{IsKept, ListStands, folded}
use Rattle.vbucket.proofs.Feeding.{zero_alone, zero_moved}
use Rattle.vbucket.proofs.Steadying.{queued_floor, queued_zero}
use Rattle.vbucket.proofs.Parts.{Among, found, from_zero}
use Rattle.vbucket.proofs.Queued.{queue_stands, list_seals}
use Rattle.vbucket.proofs.Sent.{batch_items, held_flat, stop_found, taken_items}
use Rattle.vbucket.proofs.Soundness.{active_of}
use Rattle.vbucket.proofs.Spanned.{grown_spanned, no_open, opens_free, received_spanned, sealed_spanned, taken_spanned}
use Rattle.vbucket.proofs.Tidying.{own_span}

-- what stands is given a reply
abbrev pub Stands : Kept → VbReply → Plain × VbReply → Type 0
Stands k reply after = IsKept k after.0 × (reply ≡ after.1)

-- the list is the same but for cursors
same_list : (l m : Ckpts) (ws : Spans) (h : List Change) (at : ℕ) → SameChanges l m → ListStands l ws h at → ListStands m ws h at
same_list l m ws h at e is = subst (λ (x : Ckpts). ListStands x ws h at) (sym e.rest) (record { spans = is.spans; items = is.items; newest = is.newest; high = is.high })

loaded_role_same : (l m : Ckpts) → m ≡ l → SameChanges l m
loaded_role_same l m q = subst (λ (x : Ckpts). SameChanges l x) (sym q) (record { rest = refl; zero = refl })

-- what is told of the changes of a vBucket: its role, where they begin, end and were taken to, and their spans
record Lie : Type 0 where
  role : Role
  floor : ℕ
  at : ℕ
  held : List Change
  spans : Spans
  flushed : ℕ

abbrev lie_of : Plain → Lie
lie_of s = record { role = s.role; floor = s.floor; at = s.position.at; held = s.held; spans = s.spans; flushed = s.flushed }

-- so they lie in both
abbrev pub Alike : Plain → Plain → Type 0
Alike s t = lie_of t ≡ lie_of s

-- so they lie once the open span is sealed, in whichever role
abbrev pub AlikeSealed : Plain → Plain → Type 0
AlikeSealed s t = lie_of t ≡ record (lie_of s) { role = t.role; spans = with_seal s.spans }

-- the checkpoints of a list stand for the changes as they lie, and the cursor 0 stands where they were taken to
abbrev Lies : Ckpts → Lie → Type 0
Lies l x = AreSpanned x.role x.floor x.at x.held x.spans x.flushed × ListStands l x.spans x.held x.at × (l.floor ≡ x.floor) × (place_of l.places 0 ≡ Some x.flushed)

kept_as : (k' : Kept) (t : Plain) (l : Ckpts) (x : Lie) → Lies l x → lie_of t ≡ x → k'.rest ≡ folded t → SameChanges l k'.list → IsKept k' t
kept_as k' t l x lies a r e =
    let now : Lies l (lie_of t) = subst (Lies l) (sym a) lies in
    record { spanned = now.0; rest = r; list = same_list l k'.list t.spans t.held t.position.at e now.1; floor = ap (λ (y : Ckpts). y.floor) e.rest ∙ now.2; zero = e.zero ∙ now.3 }

pub kept_same : (k k' : Kept) (s t : Plain) → IsKept k s → Alike s t → k'.rest ≡ folded t → SameChanges k.list k'.list → IsKept k' t
kept_same k k' s t is a r e = kept_as k' t k.list (lie_of s) (is.spanned, is.list, is.floor, is.zero) a r e

-- the open checkpoint is sealed
pub kept_sealed : (k k' : Kept) (s t : Plain) → IsKept k s → AlikeSealed s t → k'.rest ≡ folded t → SameChanges (sealed_list k.list) k'.list → IsKept k' t
kept_sealed k k' s t is a r e =
    kept_as k' t (sealed_list k.list) (record (lie_of s) { role = t.role; spans = with_seal s.spans }) (sealed_spanned t.role is.spanned, list_seals k.list s.spans s.held s.position.at is.list, is.floor, is.zero) a r e

-- a row that treats what is folded as it treats the vBucket
abbrev pub Folds : (Plain → Plain × VbReply) → Plain → Type 0
Folds row s = row (folded s) ≡ (folded (row s).0, (row s).1)

rest_of : (row : Plain → Plain × VbReply) (k k' : Kept) (s : Plain) (reply : VbReply) → IsKept k s → Folds row s → (k'.rest, reply) ≡ row k.rest → (k'.rest ≡ folded (row s).0) × (reply ≡ (row s).1)
rest_of row k k' s reply is f e = let q : (k'.rest, reply) ≡ (folded (row s).0, (row s).1) = e ∙ ap row is.rest ∙ f in (ap (λ p. p.0) q, ap (λ p. p.1) q)

pub same_stands : (row : Plain → Plain × VbReply) (k k' : Kept) (s : Plain) (reply : VbReply) → IsKept k s → Folds row s → Alike s (row s).0 → (k'.rest, reply) ≡ row k.rest → SameChanges k.list k'.list → Stands k' reply (row s)
same_stands row k k' s reply is f a e l = let r = rest_of row k k' s reply is f e in (kept_same k k' s (row s).0 is a r.0 l, r.1)

sealed_stands : (row : Plain → Plain × VbReply) (k k' : Kept) (s : Plain) (reply : VbReply) → IsKept k s → Folds row s → AlikeSealed s (row s).0 → (k'.rest, reply) ≡ row k.rest → SameChanges (sealed_list k.list) k'.list → Stands k' reply (row s)
sealed_stands row k k' s reply is f a e l = let r = rest_of row k k' s reply is f e in (kept_sealed k k' s (row s).0 is a r.0 l, r.1)

-- nothing of the changes is another
pub kept_alike : (k k' : Kept) (s t : Plain) → IsKept k s → Alike s t → k'.rest ≡ folded t → k'.list ≡ k.list → IsKept k' t
kept_alike k k' s t is a r e = kept_same k k' s t is a r (loaded_role_same k.list k'.list e)

-- nothing changes
idle_stands : (k k' : Kept) (s : Plain) (reply said : VbReply) → IsKept k s → k' ≡ k → reply ≡ said → IsKept k' s × (reply ≡ said)
idle_stands k k' s reply said is e q = (subst (λ (x : Kept). IsKept x s) (sym e) is, q)

pub get_stands : (k : Kept) (s : Plain) → IsKept k s → (k' : Kept) (reply : VbReply) (key : List ℕ) → k' ≡ k → reply ≡ get_row k.rest key → IsKept k' s × (reply ≡ get_row s key)
get_stands k s is k' reply key e q = idle_stands k k' s reply (get_row s key) is e (q ∙ ap (λ r. get_row r key) is.rest)

pub stat_stands : (k : Kept) (s : Plain) → IsKept k s → (k' : Kept) (reply : VbReply) → k' ≡ k → reply ≡ kept_stat k → IsKept k' s × (reply ≡ stat_row s)
stat_stands k s is k' reply e q = idle_stands k k' s reply (stat_row s) is e (q ∙ told)
  where
    items : held_of k.list ≡ flat_map (λ w. live_in w s.held) (all_spans s.spans)
    items = held_flat k.list s.spans s.held s.position.at is.list

    rest : k.rest ≡ folded s
    rest = is.rest

    told : kept_stat k ≡ stat_row s
    told = λ i. quiet_reply (answer.Stat
        (length (all_spans (is.list.spans i)))
        (length (items i))
        (1 + length (filter (λ s. s.cursor) (rest i).streams))
        (rest i).saved
        (rest i).position.at)

pub ask_stands : (k : Kept) (s : Plain) → IsKept k s → (k' : Kept) (reply : VbReply) → k' ≡ k → reply ≡ ask_row k.rest → IsKept k' s × (reply ≡ ask_row s)
ask_stands k s is k' reply e q = idle_stands k k' s reply (ask_row s) is e (q ∙ ap ask_row is.rest)

pub log_stands : (k : Kept) (s : Plain) → IsKept k s → (k' : Kept) (reply : VbReply) → k' ≡ k → reply ≡ log_row k.rest → IsKept k' s × (reply ≡ log_row s)
log_stands k s is k' reply e q = idle_stands k k' s reply (log_row s) is e (q ∙ ap log_row is.rest)

pub show_stands : (k : Kept) (s : Plain) → IsKept k s → (k' : Kept) (reply : VbReply) → k' ≡ k → reply ≡ show_row k.rest → IsKept k' s × (reply ≡ show_row s)
show_stands k s is k' reply e q = idle_stands k k' s reply (show_row s) is e (q ∙ ap show_row is.rest)

-- a vBucket whose changes are folded, but for where they began
abbrev at_floor : Plain → Plain
at_floor s = record (folded s) { floor = s.floor }

-- a row changes the streams alone, and changes them so where all else is folded
record Restreams (s : Plain) (after folded_after : Plain × VbReply) : Type 0 where
  alone : after.0 ≡ record s { streams = after.0.streams }
  folds : ◌≡◌ {A = List Stream × VbReply} (folded_after.0.streams, folded_after.1) (after.0.streams, after.1)

restreams_stand : (row : Plain → Plain × VbReply) (k k' : Kept) (s : Plain) (reply : VbReply) → IsKept k s → Restreams s (row s) (row (at_floor s)) → (k'.rest, reply) ≡ restreamed row k → SameChanges k.list k'.list → Stands k' reply (row s)
restreams_stand row k k' s reply is r e l =
    let rest : k.rest ≡ folded s = is.rest in
    let floor : k.list.floor ≡ s.floor = is.floor in
    let begun : floored k ≡ at_floor s = λ i. record (rest i) { floor = floor i } in
    let q : (k'.rest, reply) ≡ (record (folded s) { streams = (row s).0.streams }, (row s).1) =
    e ∙ (λ i. (record (rest i) { streams = (row (begun i)).0.streams }, (row (begun i)).1)) ∙ ap (λ p. (record (folded s) { streams = p.0 }, p.1)) r.folds in
    (kept_same k k' s (row s).0 is (ap lie_of r.alone) (ap (λ p. p.0) q ∙ sym (ap folded r.alone)) l, ap (λ p. p.1) q)

-- a request for a stream

open_restreams : (s : Plain) (id : ℕ) (ask : StreamAsk) (sync : Bool) → Restreams s (open_row s id ask sync) (open_row (at_floor s) id ask sync)
open_restreams s id ask sync = by (open_refusal s id ask)
  where
    judged : (v : Verdict) → Restreams s (judged_open v s id ask sync) (judged_open v (at_floor s) id ask sync)
    judged Continue = record { alone = refl; folds = refl }
    judged (Roll to) = record { alone = refl; folds = refl }

    by : (why : Option Status) → Restreams s (open_outcome why s id ask sync) (open_outcome why (at_floor s) id ask sync)
    by (Some st) = record { alone = refl; folds = refl }
    by None = judged (rule s.log s.position.at ask)

pub open_stands : (k : Kept) (s : Plain) → IsKept k s → (k' : Kept) (reply : VbReply) (id : ℕ) (ask : StreamAsk) (sync : Bool) → (k'.rest, reply) ≡ kept_open k id ask sync → SameChanges k.list k'.list → Stands k' reply (open_row s id ask sync)
open_stands k s is k' reply id ask sync e l = restreams_stand (λ vb. open_row vb id ask sync) k k' s reply is (open_restreams s id ask sync) e l

-- and where its changes come from

place_restreams : (s : Plain) (id : ℕ) → Restreams s (place_row s id) (place_row (at_floor s) id)
place_restreams s id = by (stream_at id s.streams)
  where
    placed : (t : Stream) (has there : Bool) → Restreams s (placed_by has there t s) (placed_by has there t (at_floor s))
    placed t true there = record { alone = refl; folds = refl }
    placed t false true = record { alone = refl; folds = refl }
    placed t false false = record { alone = refl; folds = refl }

    by : (o : Option Stream) → Restreams s (place_from o s) (place_from o (at_floor s))
    by None = record { alone = refl; folds = refl }
    by (Some t) = placed t t.cursor (is_in_memory s t.place)

pub place_stands : (k : Kept) (s : Plain) → IsKept k s → (k' : Kept) (reply : VbReply) (id : ℕ) → (k'.rest, reply) ≡ kept_place k id → SameChanges k.list k'.list → Stands k' reply (place_row s id)
place_stands k s is k' reply id e l = restreams_stand (λ vb. place_row vb id) k k' s reply is (place_restreams s id) e l

pub close_stands : (k : Kept) (s : Plain) → IsKept k s → (k' : Kept) (reply : VbReply) (id : ℕ) → (k'.rest, reply) ≡ close_row k.rest id → SameChanges k.list k'.list → Stands k' reply (close_row s id)
close_stands k s is k' reply id e l = same_stands (λ vb. close_row vb id) k k' s reply is refl refl e l

-- a log that is taken over

abbrev pub guarded : Bool → Bool → Plain × VbReply → Plain → Status → Plain × VbReply
guarded b d made vb st = if b then (if d then made else (vb, refusal_reply st)) else (vb, refusal_reply status.NotMyVbucket)

pub adopt_stands : (k : Kept) (s : Plain) → IsKept k s → (k' : Kept) (reply : VbReply) (log : List LogEntry) → (k'.rest, reply) ≡ adopt_row k.rest log → k'.list ≡ k.list → Stands k' reply (adopt_row s log)
adopt_stands k s is k' reply log e l = same_stands (λ vb. adopt_row vb log) k k' s reply is (by (is_follower s.role) (is_answerable log)) (so (is_follower s.role) (is_answerable log)) e (loaded_role_same k.list k'.list l)
  where
    made : Plain → Plain × VbReply
    made vb = (record vb { log = log; first = true }, quiet_reply answer.Done)

    by : (b d : Bool) → guarded b d (made (folded s)) (folded s) status.Einval ≡ (folded (guarded b d (made s) s status.Einval).0, (guarded b d (made s) s status.Einval).1)
    by true true = refl
    by true false = refl
    by false d = refl

    so : (b d : Bool) → Alike s (guarded b d (made s) s status.Einval).0
    so true true = refl
    so true false = refl
    so false d = refl

-- changes of role, markers and seals

pub mark_stands : (k : Kept) (s : Plain) → IsKept k s → (k' : Kept) (reply : VbReply) (start end : ℕ) → (k'.rest, reply) ≡ marker_row k.rest start end
    → SealedIf (is_follower k.rest.role && marker_fits k.rest.position k.rest.first start end) k.list k'.list → Stands k' reply (marker_row s start end)
mark_stands k s is k' reply start end e l =
    by (is_follower s.role) (marker_fits s.position s.first start end) (e ∙ ap (λ vb. marker_row vb start end) is.rest) (subst (λ vb. SealedIf (is_follower vb.role && marker_fits vb.position vb.first start end) k.list k'.list) is.rest l)
  where
    made : Plain → Plain × VbReply
    made vb = (marked_vb vb start end, quiet_reply (answer.Range (min start vb.position.at) end))

    by : (b d : Bool) → (k'.rest, reply) ≡ guarded b d (made (folded s)) (folded s) status.Erange → SealedIf (b && d) k.list k'.list → Stands k' reply (guarded b d (made s) s status.Erange)
    by true true q m = (kept_sealed k k' s (made s).0 is refl (ap (λ p. p.0) q) m, ap (λ p. p.1) q)
    by true false q m = (kept_same k k' s s is refl (ap (λ p. p.0) q) (loaded_role_same k.list k'.list m), ap (λ p. p.1) q)
    by false d q m = (kept_same k k' s s is refl (ap (λ p. p.0) q) (loaded_role_same k.list k'.list m), ap (λ p. p.1) q)

pub role_stands : (k : Kept) (s : Plain) → IsKept k s → (k' : Kept) (reply : VbReply) (new : Role) → (k'.rest, reply) ≡ turn_row k.rest new → SealedIf (not (is_role k.rest.role new)) k.list k'.list → Stands k' reply (turn_row s new)
role_stands k s is k' reply new e l = by (is_role s.role new) (e ∙ ap (λ vb. turn_row vb new) is.rest) (subst (λ vb. SealedIf (not (is_role vb.role new)) k.list k'.list) is.rest l)
  where
    made : Bool → Plain → Plain × VbReply
    made b vb = if b then (vb, refusal_reply status.NotMyVbucket) else (in_role vb new, ending_reply vb answer.Done)

    by : (b : Bool) → (k'.rest, reply) ≡ made b (folded s) → SealedIf (not b) k.list k'.list → Stands k' reply (made b s)
    by true q m = (kept_same k k' s s is refl (ap (λ p. p.0) q) (loaded_role_same k.list k'.list m), ap (λ p. p.1) q)
    by false q m = (kept_sealed k k' s (in_role s new) is refl (ap (λ p. p.0) q) m, ap (λ p. p.1) q)

-- the vBucket is to take over
pub pend_stands : (k : Kept) (s : Plain) → IsKept k s → (k' : Kept) (reply : VbReply) → (k'.rest, reply) ≡ pend_row k.rest → SealedIf (is_follower k.rest.role) k.list k'.list → Stands k' reply (pend_row s)
pend_stands k s is k' reply e l = by (is_follower s.role) (e ∙ ap pend_row is.rest) (subst (λ vb. SealedIf (is_follower vb.role) k.list k'.list) is.rest l)
  where
    made : Bool → Plain → Plain × VbReply
    made b vb = if b then (in_role vb role.Pending, ending_reply vb answer.Done) else (vb, refusal_reply status.NotMyVbucket)

    by : (b : Bool) → (k'.rest, reply) ≡ made b (folded s) → SealedIf b k.list k'.list → Stands k' reply (made b s)
    by true q m = (kept_sealed k k' s (in_role s role.Pending) is refl (ap (λ p. p.0) q) m, ap (λ p. p.1) q)
    by false q m = (kept_same k k' s s is refl (ap (λ p. p.0) q) (loaded_role_same k.list k'.list m), ap (λ p. p.1) q)

-- or is given up for a stream
pub yield_stands : (k : Kept) (s : Plain) → IsKept k s → (k' : Kept) (reply : VbReply) (id : ℕ) → (k'.rest, reply) ≡ yield_row k.rest id
    → SealedIf (is_active k.rest.role && is_some (stream_at id k.rest.streams)) k.list k'.list → Stands k' reply (yield_row s id)
yield_stands k s is k' reply id e l =
    by (is_active s.role) (stream_at id s.streams) (e ∙ ap (λ vb. yield_row vb id) is.rest) (subst (λ vb. SealedIf (is_active vb.role && is_some (stream_at id vb.streams)) k.list k'.list) is.rest l)
  where
    made : Bool → Option Stream → Plain → Plain × VbReply
    made b o vb = if b then yielded o vb else (vb, refusal_reply status.NotMyVbucket)

    by : (b : Bool) (o : Option Stream) → (k'.rest, reply) ≡ made b o (folded s) → SealedIf (b && is_some o) k.list k'.list → Stands k' reply (made b o s)
    by true (Some t) q m = (kept_sealed k k' s (yielded (Some t) s).0 is refl (ap (λ p. p.0) q) m, ap (λ p. p.1) q)
    by true None q m = (kept_same k k' s s is refl (ap (λ p. p.0) q) (loaded_role_same k.list k'.list m), ap (λ p. p.1) q)
    by false o q m = (kept_same k k' s s is refl (ap (λ p. p.0) q) (loaded_role_same k.list k'.list m), ap (λ p. p.1) q)

pub seal_stands : (k : Kept) (s : Plain) → IsKept k s → (k' : Kept) (reply : VbReply) → k' ≡ record k { list = sealed_list k.list } → reply ≡ quiet_reply (answer.Flag (is_some (ckpt_span k.list.newest))) → Stands k' reply (seal_row s)
seal_stands k s is k' reply e q = (
  kept_sealed k k' s (seal_row s).0 is refl (ap (λ (x : Kept). x.rest) e ∙ is.rest) (loaded_role_same (sealed_list k.list) k'.list (ap (λ (x : Kept). x.list) e)),
  q ∙ ap (λ w. quiet_reply (answer.Flag (is_some w.current))) is.list.spans,
)

-- nothing but what stood before, at a seqno

alone_kept : (k : Kept) (s : Plain) (at : ℕ) (o : Origin) → k.rest ≡ folded s → k.list ≡ ckpts_at at o → OpensOwn s.role None → s.held ≡ [] → s.spans ≡ no_spans → s.position.at ≡ at → s.floor ≡ at → s.flushed ≡ at → IsKept k s
alone_kept k s at o e l own h w p f g = record {
  spanned = record {
    rises = subst (λ xs. Rises s.floor s.position.at xs) (sym h) (omega arith);
    current = subst (λ (ws : Spans). OpensOwn s.role ws.current) (sym w) own;
    spans = subst (λ (ws : Spans). Follow s.floor (all_spans ws) s.position.at) (sym w) (f ∙ sym p);
    tidy = subst (λ (ws : Spans). AllSpans s.held (all_spans ws)) (sym w) tt;
    flushed = (omega arith, omega arith);
  };
  rest = e;
  list = subst (λ (x : Ckpts). ListStands x s.spans s.held s.position.at) (sym l)
      (subst (λ (ws : Spans). ListStands (ckpts_at at o) ws s.held s.position.at) (sym w) (record { spans = refl; items = refl; newest = refl; high = sym p }));
  floor = ap (λ (x : Ckpts). x.floor) l ∙ sym f;
  zero = ap (λ (x : Ckpts). place_of x.places 0) l ∙ zero_alone at ∙ ap Some (sym g);
}

-- a rollback
pub roll_stands : (k : Kept) (s : Plain) → IsKept k s → (k' : Kept) (reply : VbReply) (at : ℕ) (image : Picture) (cas : ℕ) → (k', reply) ≡ kept_roll k at image cas → Stands k' reply (roll_row s at image cas)
roll_stands k s is k' reply at image cas e =
    let q : (k', reply) ≡ made (is_follower s.role) = e ∙ ap (λ (r : Plain). made (is_follower r.role)) is.rest in
    by (is_follower s.role) refl q
  where
    made : Bool → Kept × VbReply
    made b = if b then (kept_rolled k at image cas, quiet_reply (answer.Num at)) else (k, refusal_reply status.NotMyVbucket)

    plain_made : Bool → Plain × VbReply
    plain_made b = if b then (rolled_vb s at image cas, quiet_reply (answer.Num at)) else (s, refusal_reply status.NotMyVbucket)

    rest : (kept_rolled k at image cas).rest ≡ folded (rolled_vb s at image cas)
    rest = ap (λ (r : Plain). record r { base = image; position = complete_position at; log = kept_to at r.log; last_cas = max r.last_cas cas; saved = at }) is.rest

    by : (b : Bool) → is_follower s.role ≡ b → (k', reply) ≡ made b → Stands k' reply (plain_made b)
    by true f q = (
      subst (λ (x : Kept). IsKept x (rolled_vb s at image cas)) (sym (ap (λ p. p.0) q))
          (alone_kept (kept_rolled k at image cas) (rolled_vb s at image cas) at k.list.newest.origin rest refl (opens_free s.role None f) refl refl refl refl refl),
      ap (λ p. p.1) q,
    )
    by false f q = (subst (λ (x : Kept). IsKept x s) (sym (ap (λ p. p.0) q)) is, ap (λ p. p.1) q)

-- a new vBucket
pub new_stands : (k : Kept) (node : ℕ) (r : Role) (uuid : ℕ) → k.rest ≡ folded (new_vb node r uuid) → k.list ≡ ckpts_at 0 Own → IsKept k (new_vb node r uuid)
new_stands k node r uuid e l = alone_kept k (new_vb node r uuid) 0 Own e l (no_open r) refl refl refl refl refl

-- one that was written down
pub loaded_stands : (k : Kept) (node : ℕ) (r : Role) (log : List LogEntry) (position : Position) (cas : ℕ) (image : Picture) → k.rest ≡ folded (loaded_vb node r log position cas image) → k.list ≡ ckpts_at position.at Own
    → IsKept k (loaded_vb node r log position cas image)
loaded_stands k node r log position cas image e l = alone_kept k (loaded_vb node r log position cas image) position.at Own e l (no_open (loaded_role r)) refl refl refl refl refl

-- a write

more_image : (base : Picture) (h : List Change) (c : Change) → applied (fold applied base h) c ≡ fold applied base (h ++ c ∷ [])
more_image base h c = sym (fold-append applied base h (c ∷ []))

-- a change of the vBucket's own, after which this is the last CAS and these prepares are outstanding
pub own_kept : (k : Kept) (s : Plain) (c : Change) (cas : ℕ) (ws : List Waiting) → IsKept k s → c.seq ≡ s.position.at + 1 → is_active s.role ≡ true
    → IsKept (record { rest = record k.rest { base = applied k.rest.base c; position = complete_position c.seq; last_cas = cas; waiting = ws }; list = queued k.list Own c }) (record (growth s c cas).0 { waiting = ws })
own_kept k s c cas ws is q a =
    let l : s.position.at < c.seq = omega (arith, q) in record {
      spanned = grown_spanned s c cas is.spanned a l;
      rest = ap (λ (r : Plain). record r { base = applied r.base c; position = record { ss = c.seq; se = c.seq; at = c.seq }; last_cas = cas; waiting = ws }) is.rest
          ∙ ap (λ (b : Picture). record (folded s) { base = b; position = record { ss = c.seq; se = c.seq; at = c.seq }; last_cas = cas; waiting = ws }) (more_image s.base s.held c);
      list = queue_stands s.floor k.list s.spans s.held s.position.at Own c is.list (from_zero s.floor s.position.at s.held is.spanned.rises) is.spanned.spans is.spanned.tidy l (λ o. own_span s.role s.spans.current a is.spanned.current);
      floor = queued_floor k.list Own c ∙ is.floor;
      zero = queued_zero k.list Own c ∙ is.zero;
    }

pub store_stands : (k : Kept) (s : Plain) → IsKept k s → (k' : Kept) (reply : VbReply) (write : Write) (clock : ℕ) → (k', reply) ≡ kept_store k write clock → Stands k' reply (store_row s write clock)
store_stands k s is k' reply write clock e =
    let one : Stands (kept_store k write clock).0 (kept_store k write clock).1 (store_row s write clock) = by (store_refusal s write) refl in
    (subst (λ (x : Kept). IsKept x (store_row s write clock).0) (sym (ap (λ p. p.0) e)) one.0, ap (λ p. p.1) e ∙ one.1)
  where
    cas : ℕ
    cas = new_cas clock s.last_cas

    grown : (c : Change) → c ≡ write_change s write cas → is_active s.role ≡ true → Stands (kept_growth k c cas).0 (kept_growth k c cas).1 (growth s c cas)
    grown c q a = (
      subst (λ ws. IsKept (record (kept_growth k c cas).0 { rest = record (kept_growth k c cas).0.rest { waiting = ws } }) (growth s c cas).0) (sym (ap (λ (r : Plain). r.waiting) is.rest)) (own_kept k s c cas s.waiting is (ap (λ (x : Change). x.seq) q) a),
      ap (λ (vb : Plain). let r : VbReply = record { answer = answer.Stored (newest_branch vb.log) c.seq cas; resolved = []; ended = []; branch = newest_branch vb.log; changes = c ∷ [] } in r) is.rest,
    )

    by : (why : Option Status) → store_refusal s write ≡ why → Stands (kept_store k write clock).0 (kept_store k write clock).1 (store_row s write clock)
    by why q =
        let same : kept_store k write clock ≡ kept_outcome why k write cas = ap (λ vb. kept_outcome (store_refusal vb write) k write (new_cas clock vb.last_cas)) is.rest ∙ ap (λ o. kept_outcome o k write cas) q in
        subst (λ o. Stands (kept_store k write clock).0 (kept_store k write clock).1 (store_outcome o s write cas)) (sym q) (subst (λ p. Stands p.0 p.1 (store_outcome why s write cas)) (sym same) (cases why q))
      where
        cases : (why : Option Status) → store_refusal s write ≡ why → Stands (kept_outcome why k write cas).0 (kept_outcome why k write cas).1 (store_outcome why s write cas)
        cases (Some st) q = (is, refl)
        cases None q =
            let c : Change = write_change s write cas in
            let ec : write_change k.rest write cas ≡ c = ap (λ vb. write_change vb write cas) is.rest in
            subst (λ x. Stands (kept_growth k x cas).0 (kept_growth k x cas).1 (growth s c cas)) (sym ec) (grown c refl (active_of s.role (lacks_seqnos s 1) (key_refusal s write) q))

-- a change from the producer

pub receive_stands : (k : Kept) (s : Plain) → IsKept k s → (k' : Kept) (reply : VbReply) (c : Change) → (k', reply) ≡ kept_receive k c → Stands k' reply (receive_row s c)
receive_stands k s is k' reply c e =
    let one : Stands (kept_receive k c).0 (kept_receive k c).1 (receive_row s c) = by (is_follower s.role) (is_next s.position c.seq) refl refl in
    (subst (λ (x : Kept). IsKept x (receive_row s c).0) (sym (ap (λ p. p.0) e)) one.0, ap (λ p. p.1) e ∙ one.1)
  where
    origin : Origin
    origin = Received s.position.ss s.position.se

    next_of : (at seq se : ℕ) → (nat_lt at seq && nat_le seq se) ≡ true → at < seq
    next_of at seq se e = grind (arith, nat_tests)

    received : (x : Change) → is_follower s.role ≡ true → s.position.at < x.seq → Stands (kept_received k x).0 (kept_received k x).1 (with_received_change s x)
    received x f l = (
      record {
        spanned = received_spanned s x is.spanned f l;
        rest = ap (λ (r : Plain). record r { base = applied r.base x; position = record { ss = r.position.ss; se = r.position.se; at = x.seq }; last_cas = max r.last_cas (cas_of x.act) }) is.rest
            ∙ ap (λ (b : Picture). record (folded s) { base = b; position = record { ss = s.position.ss; se = s.position.se; at = x.seq }; last_cas = max s.last_cas (cas_of x.act) }) (more_image s.base s.held x);
        list = subst (λ vb. ListStands (queued k.list (Received vb.position.ss vb.position.se) x) (with_received_change s x).0.spans (s.held ++ x ∷ []) x.seq) (sym is.rest)
            (queue_stands s.floor k.list s.spans s.held s.position.at origin x is.list (from_zero s.floor s.position.at s.held is.spanned.rises) is.spanned.spans is.spanned.tidy l (λ o. let z : Received s.position.ss s.position.se ≡ Own = o in cc));
        floor = queued_floor k.list (Received k.rest.position.ss k.rest.position.se) x ∙ is.floor;
        zero = queued_zero k.list (Received k.rest.position.ss k.rest.position.se) x ∙ is.zero;
      },
      refl,
    )

    acted : (a : Option Act) → is_follower s.role ≡ true → s.position.at < c.seq → Stands (kept_receive_as a k c).0 (kept_receive_as a k c).1 (receive_as a s c)
    acted None f l = (is, refl)
    acted (Some a) f l = received (record { seq = c.seq; key = c.key; act = a }) f l

    kept_by : Bool → Bool → Option Act → Kept × VbReply
    kept_by b d a = if b then (if d then kept_receive_as a k c else (k, refusal_reply status.Erange)) else (k, refusal_reply status.NotMyVbucket)

    plain_by : Bool → Bool → Option Act → Plain × VbReply
    plain_by b d a = if b then (if d then receive_as a s c else (s, refusal_reply status.Erange)) else (s, refusal_reply status.NotMyVbucket)

    cases : (b d : Bool) (a : Option Act) → is_follower s.role ≡ b → is_next s.position c.seq ≡ d → Stands (kept_by b d a).0 (kept_by b d a).1 (plain_by b d a)
    cases true true a f n = acted a f (next_of s.position.at c.seq s.position.se n)
    cases true false a f n = (is, refl)
    cases false d a f n = (is, refl)

    by : (b d : Bool) → is_follower s.role ≡ b → is_next s.position c.seq ≡ d → Stands (kept_receive k c).0 (kept_receive k c).1 (receive_row s c)
    by b d f n =
        let same : kept_receive k c ≡ kept_by (is_follower s.role) (is_next s.position c.seq) (completed_act (pending_of s c.key) c.act) =
        ap (λ vb. kept_by (is_follower vb.role) (is_next vb.position c.seq) (completed_act (pending_of vb c.key) c.act)) is.rest in
        subst (λ p. Stands p.0 p.1 (receive_row s c)) (sym same) (cases (is_follower s.role) (is_next s.position c.seq) (completed_act (pending_of s c.key) c.act) refl refl)

-- a take

-- where the cursor 0 stays, what is kept stands
abbrev Takes : Kept → Kept × VbReply → Plain × VbReply → Type 0
Takes k made after = place_of made.0.list.places 0 ≡ place_of k.list.places 0 → Stands made.0 made.1 after

pub take_stands : (k : Kept) (s : Plain) → IsKept k s → (k' : Kept) (reply : VbReply) (id : ℕ) → (k', reply) ≡ kept_take k id → place_of k'.list.places 0 ≡ place_of k.list.places 0 → Stands k' reply (take_row s id)
take_stands k s is k' reply id e z =
    let same : kept_take k id ≡ kept_take_from (stream_at id s.streams) k = ap (λ vb. kept_take_from (stream_at id vb.streams) k) is.rest in
    let one : Stands (kept_take k id).0 (kept_take k id).1 (take_row s id) =
    subst (λ p. place_of p.0.list.places 0 ≡ place_of k.list.places 0 → Stands p.0 p.1 (take_row s id)) (sym same) (by (stream_at id s.streams)) (subst (λ (x : Kept). place_of x.list.places 0 ≡ place_of k.list.places 0) (ap (λ p. p.0) e) z) in
    (subst (λ (x : Kept). IsKept x (take_row s id).0) (sym (ap (λ p. p.0) e)) one.0, ap (λ p. p.1) e ∙ one.1)
  where
    to : (st : Stream) (w : Option Span) → ((v : Span) → w ≡ Some v → Among v (all_spans s.spans)) → Takes k (kept_take_to (option_map (λ w. w.last) w) st k) (take_to w st s)
    to st None q z = (is, refl)
    to st (Some w) q z =
        let a : Among w (all_spans s.spans) = q w refl in (
          kept_same k (kept_take_to (Some w.last) st k).0 s (take_to (Some w) st s).0 is refl
              (ap (λ (r : Plain). record r { streams = map (moved_on st.id w.last) r.streams }) is.rest) (record { rest = refl; zero = z }),
          ap (λ xs. quiet_reply (answer.Taken (snapshot_of st xs))) (taken_items s.floor k.list s.spans s.held s.position.at is.list is.spanned.spans st w a),
        )

    stop : Bool → Stream → Option ℕ
    stop b st = if b then stop_of k.list st.place (need_of st) st.sync else None

    end : Bool → Stream → Option Span
    end b st = if b then end_span st (all_spans s.spans) s.held else None

    stops : (b : Bool) (st : Stream) → stop b st ≡ option_map (λ w. w.last) (end b st)
    stops true st = stop_found s.floor k.list s.spans s.held s.position.at is.list is.spanned.spans st
    stops false st = refl

    ends : (b : Bool) (st : Stream) (w : Span) → end b st ≡ Some w → Among w (all_spans s.spans)
    ends true st w q = (found _ (all_spans s.spans) w q).0
    ends false st w q = cc

    by : (st : Option Stream) → Takes k (kept_take_from st k) (take_from st s)
    by None z = (is, refl)
    by (Some st) z =
        let b : Bool = st.cursor in
        subst (λ o. Takes k (kept_take_to o st k) (take_to (end b st) st s)) (sym (stops b st)) (to st (end b st) (ends b st)) z

-- what is taken to be written down

position_at : (o : Origin) (n : ℕ) → (span_position o n).at ≡ n
position_at Own n = refl
position_at (Received ss se) n = refl

pub flush_stands : (k : Kept) (s : Plain) → IsKept k s → (k' : Kept) (reply : VbReply) → (k', reply) ≡ kept_flush k → Stands k' reply (flush_row s)
flush_stands k s is k' reply e =
    let p : (k', reply) ≡ kept_flush_to (window_of k.list s.flushed) s.flushed k = e ∙ ap (λ o. kept_flush_from o k) is.zero in
    let q : (k', reply) ≡ kept_flush_to (window_at (unflushed_span s)) s.flushed k = p ∙ ap (λ v. kept_flush_to (window_at (find (λ w. nat_lt s.flushed w.last) (all_spans v))) s.flushed k) is.list.spans in
    by (unflushed_span s) refl q
  where
    items : (w : Span) → unflushed_span s ≡ Some w → between s.flushed (span_position w.origin w.last).at (held_of k.list) ≡ filter (λ c. nat_lt s.flushed c.seq) (live_in w s.held)
    items w u =
        ap (λ n. between s.flushed n (held_of k.list)) (position_at w.origin w.last)
        ∙ ap (between s.flushed w.last) (held_flat k.list s.spans s.held s.position.at is.list)
        ∙ batch_items s.floor s.position.at s.flushed s.held (all_spans s.spans) w is.spanned.spans u

    by : (o : Option Span) → unflushed_span s ≡ o → (k', reply) ≡ kept_flush_to (window_at o) s.flushed k → Stands k' reply (flush_from o s)
    by None u q = (subst (λ (x : Kept). IsKept x s) (sym (ap (λ p. p.0) q)) is, ap (λ p. p.1) q)
    by (Some w) u q =
        let n : ℕ = (span_position w.origin w.last).at in
        let a : Among w (all_spans s.spans) = (found _ (all_spans s.spans) w u).0 in
        let rest : k.rest ≡ folded s = is.rest in (
          subst (λ (x : Kept). IsKept x (record s { flushed = w.last })) (sym (ap (λ p. p.0) q)) (record {
            spanned = taken_spanned s w is.spanned a;
            rest = is.rest;
            list = record { spans = is.list.spans; items = is.list.items; newest = is.list.newest; high = is.list.high };
            floor = is.floor;
            zero = zero_moved k.list.places n ∙ ap Some (position_at w.origin w.last);
          }),
          ap (λ p. p.1) q ∙ (λ i. quiet_reply (answer.Rows (record { position = span_position w.origin w.last; cas = (rest i).last_cas; log = (rest i).log; items = items w u i }))),
        )
