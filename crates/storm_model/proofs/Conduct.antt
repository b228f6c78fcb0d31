-- what a storm's calls do to a vBucket
use Rattle.std.proofs.Common.{◌≡◌, ℕ, zero, suc, ◌+◌, ◌≤◌, Bool, true, false, List, [], ◌∷◌, ◌++◌, map, length, refl, ap, sym, ◌∙◌, subst, cond, append_assoc, append-nil, length-append, arith}
use Rattle.std.specs.Prelude.{Option, Some, None, nat_lt, max, if◌then◌else◌}
use Rattle.std.specs.List.{AllByRecursion, range_with_len}
use Rattle.std.specs.FinMap as finite
use Rattle.std.specs.Ordering.{eq_by_cmp}
use Rattle.std.specs.Cmp.Lexicographic.{nat_list_cmp_total}
use Rattle.std.proofs.lemmas.List.Sums.{fold-append}
use Rattle.std.proofs.lemmas.Bool.Decides.{nat_tests}
use Rattle.durability.specs.declared.waiting.Waiting.{Waiting}
use Rattle.vb_types.specs.Images.{applied, is_older}
use Rattle.vb_types.specs.Keys.{key_cmp}
use Rattle.vb_types.specs.declared.change.Change.{Change}
use Rattle.vb_types.specs.declared.doc.Doc.{Doc}
use Rattle.vb_types.specs.declared.position.TheConstants.{MAX_SEQ}
use Rattle.vb_types.specs.declared.role.Role.TheVariants as role
use Rattle.vb_types.specs.declared.status.Status.{Status}
use Rattle.vb_types.specs.declared.status.Status.TheVariants as status
use Rattle.vb_types.specs.declared.stream.StreamAsk.{StreamAsk}
use Rattle.vb_types.specs.declared.stream.Verdict.{Verdict}
use Rattle.vb_types.specs.declared.stream.Verdict.TheVariants as verdict
use Rattle.vb_types.specs.declared.write.Op.TheVariants as op
use Rattle.vb_types.specs.declared.write.Write.{Write}
use Rattle.vb_calls.specs.declared.calls.VbCall.{VbCall}
use Rattle.vb_calls.specs.declared.calls.VbCall.TheVariants as call
use Rattle.vb_calls.specs.declared.calls.VbReply.{VbReply}
use Rattle.vb_calls.specs.declared.stream.Stream.{Stream}
use Rattle.vb_calls.specs.declared.span.Span.{Span}
use Rattle.vb_calls.specs.State.{Plain, image_in, doc_at, is_active, is_left, pending_of, get_reply, doc_reply, refusal_reply}
use Rattle.vb_calls.specs.Plain.{plain_step}
use Rattle.vb_calls.specs.Writes.{store_refusal, store_outcome, growth, write_change, new_cas, written_doc, new_rev, doc_refusal, pending_refusal, lacks_seqnos, or_else}
use Rattle.vb_calls.specs.Settling.{settled, settled_from, unresolved, Resolving}
use Rattle.vb_calls.specs.Streams.{open_outcome, open_refusal, judged_open, place_from, placed_by, take_from, take_to, stream_at, is_in_memory, end_span}
use Rattle.vb_calls.specs.Spans.{all_spans}
use Rattle.vb_calls.specs.Flushing.{flush_from, unflushed_span}
use Rattle.branch_model.specs.Requests.{rule}
use Rattle.vb_turn.specs.History.{after, Legal}
use Rattle.storm_model.specs.Ledgers.{ledger, with_write}
use Rattle.storm_model.specs.Writes.{set_of}
use Rattle.storm_model.specs.Histories.{write_in, stores, seq_in, told_seqs, is_storm_call, AreStormCalls, IsPut, put_in}
use Rattle.storm_model.proofs.Shown.{value_in}
use Rattle.storm_model.specs.Sums.{storm_new}

-- an active vBucket for which no prepare waits, and which these writes alone were made at
pub record Calm (vb : Plain) (ws : List Write) : Type 0 where
  pub role : vb.role ≡ role.Active
  pub waiting : vb.waiting ≡ []
  pub high : vb.position.at ≡ length ws
  pub pending : (image_in vb).pending ≡ finite.empty
  pub docs : (q : List ℕ) → value_in (doc_at vb q) ≡ finite.get (ledger (map put_in ws)) q

-- the other has the same of all that a write reads and changes of the image
pub record Same (a b : Plain) : Type 0 where
  pub role : b.role ≡ a.role
  pub waiting : b.waiting ≡ a.waiting
  pub position : b.position ≡ a.position
  pub image : image_in b ≡ image_in a

same : (a : Plain) → Same a a
same a = record { role = refl; waiting = refl; position = refl; image = refl }

calm_same : (a b : Plain) (ws : List Write) → Same a b → Calm a ws → Calm b ws
calm_same a b ws s c = record {
  role = s.role ∙ c.role;
  waiting = s.waiting ∙ c.waiting;
  high = ap (λ p. p.at) s.position ∙ c.high;
  pending = ap (λ i. i.pending) s.image ∙ c.pending;
  docs = λ q. ap (λ i. value_in (finite.get i.docs q)) s.image ∙ c.docs q;
}

-- ---- a Store

none_lacks : (n : ℕ) (t : Bool) → nat_lt MAX_SEQ n ≡ t → n ≤ MAX_SEQ → t ≡ false
none_lacks n true e l = absurd (grind (arith, nat_tests))
none_lacks n false e l = refl

-- a put is refused for no document
put_goes : (o : Option Doc) → doc_refusal op.Set 0 o ≡ None
put_goes None = refl
put_goes (Some doc) = refl

pub accepted : (vb : Plain) (ws : List Write) (k v : List ℕ) → Calm vb ws → length ws + 1 ≤ MAX_SEQ → store_refusal vb (set_of k v) ≡ None
accepted vb ws k v c l =
    let room : nat_lt MAX_SEQ (vb.position.at + length vb.waiting + 1) ≡ false =
    none_lacks (vb.position.at + length vb.waiting + 1) (nat_lt MAX_SEQ (vb.position.at + length vb.waiting + 1)) refl (let a = c.high in let b : length vb.waiting ≡ 0 = ap length c.waiting in omega arith) in
    let none : finite.get (image_in vb).pending k ≡ None = ap (λ m. finite.get m k) c.pending ∙ finite.get-empty key_cmp k in
    let free : or_else (pending_refusal vb.waiting (pending_of vb k)) (doc_refusal op.Set 0 (doc_at vb k)) ≡ None =
    ap (λ o. or_else (pending_refusal vb.waiting o) (doc_refusal op.Set 0 (doc_at vb k))) none ∙ put_goes (doc_at vb k) in
    ap (λ r. if is_active r then (if lacks_seqnos vb 1 then Some status.Etmpfail else or_else (pending_refusal vb.waiting (pending_of vb k)) (doc_refusal op.Set 0 (doc_at vb k))) else Some status.NotMyVbucket) c.role
    ∙ ap (λ t. if t then Some status.Etmpfail else or_else (pending_refusal vb.waiting (pending_of vb k)) (doc_refusal op.Set 0 (doc_at vb k))) room
    ∙ free

picked : (b : Bool) (d : Doc) (o : Option Doc) (p : Option (List ℕ)) → value_in o ≡ p → value_in (cond b (Some d) o) ≡ cond b (Some d.value) p
picked true d o p e = refl
picked false d o p e = e

ledger_more : (ws : List Write) (w : Write) → ledger (map put_in (ws ++ w ∷ [])) ≡ with_write (ledger (map put_in ws)) (put_in w)
ledger_more ws w = ap ledger (map_more ws) ∙ fold-append with_write finite.empty (map put_in ws) (put_in w ∷ [])
  where
    map_more : (xs : List Write) → map put_in (xs ++ w ∷ []) ≡ map put_in xs ++ put_in w ∷ []
    map_more [] = refl
    map_more (x ∷ xs) = ap (λ t. put_in x ∷ t) (map_more xs)

-- after a write that is made
grown : (vb : Plain) (ws : List Write) (k v : List ℕ) (cas : ℕ) → Calm vb ws → Calm (growth vb (write_change vb (set_of k v) cas) cas).0 (ws ++ set_of k v ∷ [])
grown vb ws k v cas c =
    let d : Doc = written_doc (set_of k v) cas (new_rev (doc_at vb k)) in
    let w : Write = set_of k v in
    let change : Change = write_change vb w cas in
    let image : image_in (growth vb change cas).0 ≡ applied (image_in vb) change = fold-append applied vb.base vb.held (change ∷ []) in
    let none : finite.get (image_in vb).pending k ≡ None = ap (λ m. finite.get m k) c.pending ∙ finite.get-empty key_cmp k in
    record {
      role = c.role;
      waiting = c.waiting;
      high = let a = c.high in let b : length (ws ++ w ∷ []) ≡ length ws + 1 = length-append ws (w ∷ []) in omega arith;
      pending = ap (λ i. i.pending) image ∙ ap (λ o. if is_older change.seq o then finite.remove (image_in vb).pending k else (image_in vb).pending) none ∙ c.pending;
      docs = λ q. ap (λ i. value_in (finite.get i.docs q)) image
          ∙ ap value_in (finite.get-insert nat_list_cmp_total (image_in vb).docs k d q)
          ∙ picked (eq_by_cmp key_cmp q k) d (doc_at vb q) (finite.get (ledger (map put_in ws)) q) (c.docs q)
          ∙ sym (ap (λ m. finite.get m q) (ledger_more ws w) ∙ finite.get-insert nat_list_cmp_total (ledger (map put_in ws)) k v q);
    }

-- what a call of a storm comes to
pub record Made (c : VbCall) (vb : Plain) (ws : List Write) : Type 0 where
  pub calm : Calm (plain_step vb c).0 (ws ++ write_in c)
  pub seqs : seq_in (plain_step vb c).1.answer ≡ range_with_len (length ws + 1) (length (write_in c))

pub put_made : (vb : Plain) (ws : List Write) (k v : List ℕ) (clock : ℕ) → Calm vb ws → length ws + 1 ≤ MAX_SEQ → Made (call.Store (set_of k v) clock) vb ws
put_made vb ws k v clock c l =
    let cas : ℕ = new_cas clock vb.last_cas in
    let is : plain_step vb (call.Store (set_of k v) clock) ≡ growth vb (write_change vb (set_of k v) cas) cas = ap (λ o. store_outcome o vb (set_of k v) cas) (accepted vb ws k v c l) in
    record {
      calm = subst (λ (r : Plain × VbReply). Calm r.0 (ws ++ set_of k v ∷ [])) (sym is) (grown vb ws k v cas c);
      seqs = ap (λ (r : Plain × VbReply). seq_in r.1.answer) is ∙ ap (λ n. (n + 1) ∷ []) c.high;
    }

store_made : (vb : Plain) (ws : List Write) (w : Write) (clock : ℕ) → IsPut w → Calm vb ws → length ws + 1 ≤ MAX_SEQ → Made (call.Store w clock) vb ws
store_made vb ws w clock e c l = subst (λ x. Made (call.Store x clock) vb ws) (sym e) (put_made vb ws w.key w.value clock c l)

-- ---- a quiet call

pub record Quiet (vb : Plain) (r : Plain × VbReply) : Type 0 where
  pub same : Same vb r.0
  pub silent : seq_in r.1.answer ≡ []

stays : (vb : Plain) (reply : VbReply) → seq_in reply.answer ≡ [] → Quiet vb (vb, reply)
stays vb reply e = record { same = same vb; silent = e }

doc_silent : (o : Option Doc) → seq_in (doc_reply o).answer ≡ []
doc_silent None = refl
doc_silent (Some d) = refl

get_silent : (left : Bool) (o : Option Doc) → seq_in (get_reply left o).answer ≡ []
get_silent true o = refl
get_silent false o = doc_silent o

got : (vb : Plain) (left b : Bool) (o : Option Doc) → seq_in (if b then get_reply left o else refusal_reply status.NotMyVbucket).answer ≡ []
got vb left true o = get_silent left o
got vb left false o = refl

judged_quiet : (r : Verdict) (vb : Plain) (id : ℕ) (ask : StreamAsk) (sync : Bool) → Quiet vb (judged_open r vb id ask sync)
judged_quiet verdict.Continue vb id ask sync = record { same = record { role = refl; waiting = refl; position = refl; image = refl }; silent = refl }
judged_quiet (verdict.Roll to) vb id ask sync = stays vb _ refl

opened_quiet : (o : Option Status) (vb : Plain) (id : ℕ) (ask : StreamAsk) (sync : Bool) → Quiet vb (open_outcome o vb id ask sync)
opened_quiet (Some st) vb id ask sync = stays vb _ refl
opened_quiet None vb id ask sync = judged_quiet (rule vb.log vb.position.at ask) vb id ask sync

placed_by_quiet : (c m : Bool) (s : Stream) (vb : Plain) → Quiet vb (placed_by c m s vb)
placed_by_quiet true m s vb = stays vb _ refl
placed_by_quiet false true s vb = record { same = record { role = refl; waiting = refl; position = refl; image = refl }; silent = refl }
placed_by_quiet false false s vb = stays vb _ refl

placed_quiet : (o : Option Stream) (vb : Plain) → Quiet vb (place_from o vb)
placed_quiet None vb = stays vb _ refl
placed_quiet (Some s) vb = placed_by_quiet s.cursor (is_in_memory vb s.place) s vb

taken_to_quiet : (o : Option Span) (s : Stream) (vb : Plain) → Quiet vb (take_to o s vb)
taken_to_quiet None s vb = stays vb _ refl
taken_to_quiet (Some w) s vb = record { same = record { role = refl; waiting = refl; position = refl; image = refl }; silent = refl }

taken_quiet : (o : Option Stream) (vb : Plain) → Quiet vb (take_from o vb)
taken_quiet None vb = stays vb _ refl
taken_quiet (Some s) vb = taken_to_quiet (if s.cursor then end_span s (all_spans vb.spans) vb.held else None) s vb

flushed_quiet : (o : Option Span) (vb : Plain) → Quiet vb (flush_from o vb)
flushed_quiet None vb = stays vb _ refl
flushed_quiet (Some w) vb = record { same = record { role = refl; waiting = refl; position = refl; image = refl }; silent = refl }

-- nothing waits, so nothing is resolved
pub rests : (b : Bool) (waiting : List Waiting) (s : Resolving) → waiting ≡ [] → (if b then settled_from waiting s else s) ≡ s
rests b (w ∷ ws) s e = absurd (cc e)
rests true [] s e = refl
rests false [] s e = refl

pub done_quiet : (vb : Plain) (seq : ℕ) → vb.waiting ≡ [] → Quiet vb (plain_step vb (call.FlushDone seq))
done_quiet vb seq none =
    let now : Plain = record vb { saved = max vb.saved seq } in
    let is : settled now ≡ unresolved now = rests (is_active vb.role) vb.waiting (unresolved now) none in
    record {
      same = subst (λ (s : Resolving). Same vb s.vb) (sym is) (record { role = refl; waiting = refl; position = refl; image = refl });
      silent = refl;
    }

quiet_made : (c : VbCall) (vb : Plain) (ws : List Write) → write_in c ≡ [] → Quiet vb (plain_step vb c) → Calm vb ws → Made c vb ws
quiet_made c vb ws none q calm = record {
  calm = subst (λ xs. Calm (plain_step vb c).0 xs) (sym (ap (λ t. ws ++ t) none ∙ append-nil ws)) (calm_same vb (plain_step vb c).0 ws q.same calm);
  seqs = q.silent ∙ sym (ap (λ t. range_with_len (length ws + 1) (length t)) none);
}

no : {A : Type 0} → false ≡ true → A
no e = absurd (cc e)

-- each call of a storm
pub call_made : (c : VbCall) (vb : Plain) (ws : List Write) → is_storm_call c ≡ true → AllByRecursion IsPut (write_in c) → Calm vb ws → length ws + length (write_in c) ≤ MAX_SEQ → Made c vb ws
call_made (call.Store w clock) vb ws is puts calm l = store_made vb ws w clock puts.0 calm l
call_made (call.Get key) vb ws is puts calm l = quiet_made (call.Get key) vb ws refl (stays vb _ (got vb (is_left vb.waiting (pending_of vb key)) (is_active vb.role) (doc_at vb key))) calm
call_made (call.OpenStream id ask sync) vb ws is puts calm l = quiet_made (call.OpenStream id ask sync) vb ws refl (opened_quiet (open_refusal vb id ask) vb id ask sync) calm
call_made (call.Place id) vb ws is puts calm l = quiet_made (call.Place id) vb ws refl (placed_quiet (stream_at id vb.streams) vb) calm
call_made (call.Take id) vb ws is puts calm l = quiet_made (call.Take id) vb ws refl (taken_quiet (stream_at id vb.streams) vb) calm
call_made (call.CloseStream id) vb ws is puts calm l = quiet_made (call.CloseStream id) vb ws refl (record { same = record { role = refl; waiting = refl; position = refl; image = refl }; silent = refl }) calm
call_made call.FlushTake vb ws is puts calm l = quiet_made call.FlushTake vb ws refl (flushed_quiet (unflushed_span vb) vb) calm
call_made (call.FlushDone seq) vb ws is puts calm l = quiet_made (call.FlushDone seq) vb ws refl (done_quiet vb seq calm.waiting) calm
call_made call.Stat vb ws is puts calm l = quiet_made call.Stat vb ws refl (stays vb _ refl) calm
call_made call.Log vb ws is puts calm l = quiet_made call.Log vb ws refl (stays vb _ refl) calm
call_made call.Show vb ws is puts calm l = quiet_made call.Show vb ws refl (stays vb _ refl) calm
call_made (call.Durable w clock level deadline waiter) vb ws is puts calm l = no is
call_made (call.Chain chain) vb ws is puts calm l = no is
call_made (call.Ack member seq) vb ws is puts calm l = no is
call_made (call.Tick clock) vb ws is puts calm l = no is
call_made call.Due vb ws is puts calm l = no is
call_made call.Ask vb ws is puts calm l = no is
call_made (call.Adopt log) vb ws is puts calm l = no is
call_made (call.Marker start end) vb ws is puts calm l = no is
call_made (call.Receive change) vb ws is puts calm l = no is
call_made (call.RollTo at image cas) vb ws is puts calm l = no is
call_made (call.Promote uuid) vb ws is puts calm l = no is
call_made call.Follow vb ws is puts calm l = no is
call_made call.Dead vb ws is puts calm l = no is
call_made call.Pend vb ws is puts calm l = no is
call_made call.Own vb ws is puts calm l = no is
call_made (call.Yield id) vb ws is puts calm l = no is
call_made call.Seal vb ws is puts calm l = no is
call_made call.Trim vb ws is puts calm l = no is
call_made (call.DropCursor id) vb ws is puts calm l = no is

-- ---- histories

all_front : {X : Type 0} (P : X → Type 0) (xs ys : List X) → AllByRecursion P (xs ++ ys) → AllByRecursion P xs
all_front P [] ys a = tt
all_front P (x ∷ xs) ys a = (a.0, all_front P xs ys a.1)

all_behind : {X : Type 0} (P : X → Type 0) (xs ys : List X) → AllByRecursion P (xs ++ ys) → AllByRecursion P ys
all_behind P [] ys a = a
all_behind P (x ∷ xs) ys a = all_behind P xs ys a.1

range_split : (from n m : ℕ) → range_with_len from n ++ range_with_len (from + n) m ≡ range_with_len from (n + m)
range_split from zero m = (λ i. range_with_len (no_more i) (none_less i))
  where
    no_more : from + 0 ≡ from
    no_more = omega arith

    none_less : m ≡ 0 + m
    none_less = omega arith
range_split from (suc n) m =
    let next : from + suc n ≡ from + 1 + n = omega arith in
    let all : suc n + m ≡ suc (n + m) = omega arith in
    ap (λ k. from ∷ (range_with_len (from + 1) n ++ range_with_len k m)) next ∙ ap (λ t. from ∷ t) (range_split (from + 1) n m) ∙ sym (ap (range_with_len from) all)

-- what a history of a storm's calls comes to
pub record Walked (log : List (VbCall × VbReply)) (vb : Plain) (ws : List Write) : Type 0 where
  pub calm : Calm (after plain_step vb log) (ws ++ stores log)
  pub seqs : told_seqs log ≡ range_with_len (length ws + 1) (length (stores log))

pub walk : (log : List (VbCall × VbReply)) (vb : Plain) (ws : List Write) → Legal plain_step vb log → AreStormCalls log → AllByRecursion IsPut (stores log)
    → Calm vb ws → length ws + length (stores log) ≤ MAX_SEQ → Walked log vb ws
walk [] vb ws legal calls puts calm l = record { calm = subst (Calm vb) (sym (append-nil ws)) calm; seqs = refl }
walk (e ∷ es) vb ws legal calls puts calm l =
    let n : length (write_in e.0 ++ stores es) ≡ length (write_in e.0) + length (stores es) = length-append (write_in e.0) (stores es) in
    let m : length (ws ++ write_in e.0) ≡ length ws + length (write_in e.0) = length-append ws (write_in e.0) in
    let here = call_made e.0 vb ws calls.0 (all_front IsPut (write_in e.0) (stores es) puts) calm (omega arith) in
    let more = walk es (plain_step vb e.0).0 (ws ++ write_in e.0) legal.1 calls.1 (all_behind IsPut (write_in e.0) (stores es) puts) here.calm (omega arith) in
    record {
      calm = subst (Calm (after plain_step (plain_step vb e.0).0 es)) (append_assoc ws (write_in e.0) (stores es)) more.calm;
      seqs = ap (λ (r : VbReply). seq_in r.answer ++ told_seqs es) (sym legal.0)
          ∙ ap (λ t. t ++ told_seqs es) here.seqs
          ∙ ap (λ t. range_with_len (length ws + 1) (length (write_in e.0)) ++ t) (more.seqs ∙ ap (λ k. range_with_len k (length (stores es))) (let x : length (ws ++ write_in e.0) + 1 ≡ length ws + 1 + length (write_in e.0) = omega arith in x))
          ∙ range_split (length ws + 1) (length (write_in e.0)) (length (stores es))
          ∙ ap (range_with_len (length ws + 1)) (sym n);
    }

pub new_calm : (v : ℕ) → Calm (storm_new v) []
new_calm v = record { role = refl; waiting = refl; high = refl; pending = refl; docs = λ q. ap value_in (finite.get-empty key_cmp q) ∙ sym (finite.get-empty key_cmp q) }
