-- the spans and the changes of a vBucket at which writes alone were made
use Rattle.std.proofs.Common.{◌≡◌, ℕ, ◌+◌, ◌<◌, ◌≤◌, Bool, true, false, List, [], ◌∷◌, ◌++◌, length, refl, ap, sym, ◌∙◌, subst, append_assoc, append-nil, length-append, arith}
use Rattle.std.specs.Prelude.{Option, Some, None, nat_le, nat_lt, ◌||◌, ◌-◌, if◌then◌else◌, option_to_list}
use Rattle.std.specs.List.{fold, AllByRecursion}
use Rattle.vb_types.specs.Images.{nothing}
use Rattle.vb_types.specs.declared.change.Act.{Act}
use Rattle.vb_types.specs.declared.change.Act.TheVariants as act
use Rattle.vb_types.specs.declared.change.Change.{Change}
use Rattle.vb_types.specs.declared.doc.Doc.{Doc}
use Rattle.vb_types.specs.declared.position.TheConstants.{MAX_SEQ}
use Rattle.vb_types.specs.declared.write.Write.{Write}
use Rattle.vb_calls.specs.declared.calls.VbCall.TheVariants as call
use Rattle.vb_calls.specs.declared.calls.VbReply.{VbReply}
use Rattle.vb_calls.specs.declared.span.Span.{Span}
use Rattle.vb_calls.specs.declared.span.Origin.TheVariants.{Own}
use Rattle.vb_calls.specs.declared.span.TheConstants.{MAX_ITEMS, MAX_WEIGHT}
use Rattle.vb_calls.specs.declared.stream.Stream.{Stream}
use Rattle.vb_calls.specs.State.{Plain, doc_at}
use Rattle.vb_calls.specs.Plain.{plain_step}
use Rattle.vb_calls.specs.Spans.{Spans, all_spans, change_weight, is_durable, last_at, live_count, live_weight, own_joined, span_of, span_to, with_change, with_newer, with_other, with_own}
use Rattle.vb_calls.specs.Writes.{growth, new_cas, new_rev, store_outcome, write_change, written_doc}
use Rattle.storm_model.specs.Histories.{IsPut}
use Rattle.storm_model.specs.Sums.{from_start, opened, storm_new, storm_vb, stored}
use Rattle.storm_model.specs.Writes.{set_of}
use Rattle.storm_model.proofs.Agreeing.{opened_calm}
use Rattle.storm_model.proofs.Conduct.{Calm, accepted, call_made}

-- a document is put
abbrev pub IsSet : Act → Type 0
IsSet a = (d : Doc) × (a ≡ act.Set d)

-- these changes put documents, and have the seqnos above the first number, up to the last one
abbrev pub Numbered : ℕ → ℕ → List Change → Type 0
Numbered from to [] = from ≡ to
Numbered from to (c ∷ cs) = (c.seq ≡ from + 1) × IsSet c.act × Numbered c.seq to cs

-- these spans are of own changes, and each begins where the one before ends
abbrev pub Chain : ℕ → ℕ → List Span → Type 0
Chain from to [] = from ≡ to
Chain from to (w ∷ ws) = (w.above ≡ from) × (from < w.last) × (w.origin ≡ Own) × Chain w.last to ws

-- a reader's stream, with a cursor, up to which place it was fed, and whether it was
abbrev pub reader : ℕ → ℕ → Bool → Stream
reader id place taken = record { id = id; ask = from_start; sync = false; place = place; cursor = true; taken = taken }

-- a vBucket with its readers' streams, at which so many writes were made, and nothing else
pub record Lined (vb : Plain) (n : ℕ) : Type 0 where
  pub base : vb.base ≡ nothing
  pub held : Numbered 0 n vb.held
  pub chain : Chain 0 n (all_spans vb.spans)
  pub saved : vb.saved ≡ 0
  pub flushed : vb.flushed ≡ 0
  pub streams : vb.streams ≡ reader 1 0 false ∷ reader 2 0 false ∷ []

numbered_more : (from n : ℕ) (cs : List Change) (c : Change) → Numbered from n cs → c.seq ≡ n + 1 → IsSet c.act → Numbered from (n + 1) (cs ++ c ∷ [])
numbered_more from n [] c h e s = (e ∙ ap (λ (k : ℕ). k + 1) (sym h), s, e)
numbered_more from n (d ∷ cs) c h e s = (h.0, h.1, numbered_more d.seq n cs c h.2 e s)

chain_more : (from n m : ℕ) (ws : List Span) (w : Span) → Chain from n ws → w.above ≡ n → w.origin ≡ Own → w.last ≡ m → n < m → Chain from m (ws ++ w ∷ [])
chain_more from n m [] w h a o e l = (a ∙ sym h, omega (arith, h, e, l), o, e)
chain_more from n m (x ∷ ws) w h a o e l = (h.0, h.1, h.2, chain_more x.last n m ws w h.3 a o e l)

chain_longer : (from n m : ℕ) (ws : List Span) (w j : Span) → Chain from n (ws ++ w ∷ []) → j.above ≡ w.above → j.origin ≡ w.origin → j.last ≡ m → n < m → Chain from m (ws ++ j ∷ [])
chain_longer from n m [] w j h a o e l = let b = h.1 in let k = h.3 in (a ∙ h.0, omega (arith, b, k, e, l), o ∙ h.2, e)
chain_longer from n m (x ∷ ws) w j h a o e l = (h.0, h.1, h.2, chain_longer x.last n m ws w j h.3 a o e l)

-- a span that a change entered is the open one, up to the change
abbrev Joined : Option Span → Change → Option Span → Type 0
Joined current c None = Unit {0}
Joined current c (Some j) = (w : Span) × (current ≡ Some w) × (j ≡ span_to w c)

joined_if : (b : Bool) (w : Span) (c : Change) → Joined (Some w) c (if b then None else Some (span_to w c))
joined_if true w c = tt
joined_if false w c = (w, refl, refl)

joined_newer : (a b : Bool) (w : Span) (c : Change) (x y : Option Span) → Joined (Some w) c x → Joined (Some w) c y → Joined (Some w) c (if a then x else y)
joined_newer true b w c x y p q = p
joined_newer false b w c x y p q = q

joins_own : (h : List Change) (w : Span) (earlier : Option Change) (c : Change) → Joined (Some w) c (with_own h w earlier c)
joins_own h w None c = joined_if (nat_le MAX_ITEMS (live_count w h) || nat_lt MAX_WEIGHT (live_weight w h + change_weight c)) w c
joins_own h w (Some d) c = joined_newer (nat_lt w.above d.seq) true w c (with_newer h w d c) (with_other h w c)
    (joined_if (is_durable d.act || is_durable c.act || nat_lt MAX_WEIGHT (live_weight w h + change_weight c - change_weight d)) w c)
    (joined_if (nat_le MAX_ITEMS (live_count w h) || nat_lt MAX_WEIGHT (live_weight w h + change_weight c)) w c)

joins : (h : List Change) (current : Option Span) (earlier : Option Change) (c : Change) → Joined current c (own_joined h current earlier c)
joins h None earlier c = tt
joins h (Some w) earlier c = joins_own h w earlier c

chain_grown : (ws : Spans) (n : ℕ) (c : Change) (joined : Option Span) → Joined ws.current c joined → Chain 0 n (all_spans ws) → c.seq ≡ n + 1 → Chain 0 (n + 1) (all_spans (with_change ws joined (span_of n Own c)))
chain_grown ws n c None j h e = chain_more 0 n (n + 1) (all_spans ws) (span_of n Own c) h refl refl e (omega arith)
chain_grown ws n c (Some s) j h e =
    let front : Chain 0 n (ws.sealed ++ j.0 ∷ []) = subst (λ o. Chain 0 n (ws.sealed ++ option_to_list o)) j.1 h in
    chain_longer 0 n (n + 1) ws.sealed j.0 s front (ap (λ (w : Span). w.above) j.2) (ap (λ (w : Span). w.origin) j.2) (ap (λ (w : Span). w.last) j.2 ∙ e) (omega arith)

grown_lined : (vb : Plain) (ws : List Write) (k v : List ℕ) (cas : ℕ) → Calm vb ws → Lined vb (length ws) → Lined (growth vb (write_change vb (set_of k v) cas) cas).0 (length ws + 1)
grown_lined vb ws k v cas calm l =
    let c : Change = write_change vb (set_of k v) cas in
    let e : c.seq ≡ length ws + 1 = ap (λ (n : ℕ). n + 1) calm.high in
    record {
      base = l.base;
      held = numbered_more 0 (length ws) vb.held c l.held e (written_doc (set_of k v) cas (new_rev (doc_at vb k)), refl);
      chain = subst (λ (n : ℕ). Chain 0 (length ws + 1) (all_spans (with_change vb.spans (own_joined vb.held vb.spans.current (last_at vb.held c.key) c) (span_of n Own c)))) (sym calm.high)
          (chain_grown vb.spans (length ws) c (own_joined vb.held vb.spans.current (last_at vb.held c.key) c) (joins vb.held vb.spans.current (last_at vb.held c.key) c) l.chain e);
      saved = l.saved;
      flushed = l.flushed;
      streams = l.streams;
    }

put_lined : (vb : Plain) (ws : List Write) (w : Write) → IsPut w → Calm vb ws → length ws + 1 ≤ MAX_SEQ → Lined vb (length ws) → Lined (stored vb w) (length ws + 1)
put_lined vb ws w p calm room l = subst (λ x. Lined (stored vb x) (length ws + 1)) (sym p)
    (let cas : ℕ = new_cas 0 vb.last_cas in
    let is : plain_step vb (call.Store (set_of w.key w.value) 0) ≡ growth vb (write_change vb (set_of w.key w.value) cas) cas = ap (λ o. store_outcome o vb (set_of w.key w.value) cas) (accepted vb ws w.key w.value calm room) in
    subst (λ (r : Plain × VbReply). Lined r.0 (length ws + 1)) (sym is) (grown_lined vb ws w.key w.value cas calm l))

stored_lined : (ws done : List Write) (vb : Plain) → AllByRecursion IsPut ws → Calm vb done → Lined vb (length done) → length done + length ws ≤ MAX_SEQ → Lined (fold stored vb ws) (length (done ++ ws))
stored_lined [] done vb puts calm l room = subst (λ xs. Lined vb (length xs)) (sym (append-nil done)) l
stored_lined (w ∷ ws) done vb puts calm l room =
    let one : length (done ++ w ∷ []) ≡ length done + 1 = length-append done (w ∷ []) in
    let here = (call_made (call.Store w 0) vb done refl (puts.0, tt) calm (omega arith)).calm in
    let lined : Lined (stored vb w) (length (done ++ w ∷ [])) = subst (Lined (stored vb w)) (sym one) (put_lined vb done w puts.0 calm (omega arith) l) in
    subst (λ xs. Lined (fold stored (stored vb w) ws) (length xs)) (append_assoc done (w ∷ []) ws) (stored_lined ws (done ++ w ∷ []) (stored vb w) puts.1 here lined (omega arith))

opened_lined : (v : ℕ) → Lined (opened (storm_new v)) 0
opened_lined v = record { base = refl; held = refl; chain = refl; saved = refl; flushed = refl; streams = refl }

pub storm_lined : (v : ℕ) (ws : List Write) → AllByRecursion IsPut ws → length ws ≤ MAX_SEQ → Lined (storm_vb v ws) (length ws)
storm_lined v ws puts room = stored_lined ws [] (opened (storm_new v)) puts (opened_calm v) (opened_lined v) (omega arith)

-- ---- where spans end

pub chain_rises : (from to : ℕ) (ws : List Span) → Chain from to ws → from + length ws ≤ to
chain_rises from to [] h = omega (arith, h)
chain_rises from to (w ∷ ws) h = let more = chain_rises w.last to ws h.3 in let here = h.1 in omega (arith, more, here)
