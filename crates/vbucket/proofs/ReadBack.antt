-- what is read after a write
use Rattle.std.proofs.Common.{◌≡◌, ◌≢◌, ℕ, ◌+◌, ◌^◌, ◌<◌, ◌≤◌, arith, Bool, true, false, List, [], ◌∷◌, ◌++◌, refl, sym, ap, ◌∙◌, subst}
use Rattle.std.specs.Prelude.{◌-◌, Option, Some, None, if◌then◌else◌, unwrap_or}
use Rattle.std.proofs.lemmas.Slice.Eq.{bytes_eq-Decides}
use Rattle.std.proofs.lemmas.Bool.{false_from_ne_true}
use Rattle.vb_types.specs.declared.doc.Doc.{Doc}
use Rattle.vb_types.specs.declared.change.Change.{Change}
use Rattle.vb_types.specs.declared.change.Pend.{Pend}
use Rattle.vb_types.specs.declared.status.Status.{Status}
use Rattle.vb_types.specs.declared.status.Status.TheVariants as status
use Rattle.vb_types.specs.declared.write.Op.{Op}
use Rattle.vb_types.specs.declared.write.Op.TheVariants as op
use Rattle.vb_types.specs.declared.write.Write.{Write}
use Rattle.std.specs.FinMap.{get}
use Rattle.std.specs.List.{fold}
use Rattle.std.proofs.lemmas.List.Sums.{fold-append}
use Rattle.vb_types.specs.Images.{Picture, applied, said, said_at}
use Rattle.vb_types.proofs.Laws.{docs-applied}
use Rattle.vb_calls.specs.declared.calls.VbAnswer.TheVariants as answer
use Rattle.vb_calls.specs.State.{Plain, is_active, is_left, image_in, doc_at, doc_reply, get_reply, pending_of, refusal_reply, newest_branch}
use Rattle.vb_calls.specs.Writes.{act_of, doc_refusal, successor, growth, key_refusal, lacks_seqnos, write_change, written_doc, new_cas, new_rev, store_refusal, store_outcome}
use Rattle.vbucket.proofs.Soundness.{active_of}
use Rattle.vbucket.proofs.Prepares.{pend_none, pend_stays}
use Rattle.vbucket.proofs.Storing.{no_prepare, nothing_waits, said_none}
use Rattle.vbucket.specs.Laws.{IsNextRev, IsWritten, Acts, Made, WritesAreRead}

-- what a write leaves at its key
abbrev left_by : Op → Doc → Option Doc
left_by op.Set doc = Some doc
left_by op.Add doc = Some doc
left_by op.Replace doc = Some doc
left_by op.Delete doc = None

-- what an active vBucket's Get tells
none_at : (b left : Bool) (o : Option Doc) → b ≡ true → (if b then get_reply left o else refusal_reply status.NotMyVbucket).answer ≡ answer.Status status.KeyEnoent → o ≡ None
none_at true true o e a = cc
none_at true false None e a = refl
none_at true false (Some doc) e a = cc
none_at false left o e a = cc

some_at : (b left : Bool) (o : Option Doc) (doc : Doc) → b ≡ true → (if b then get_reply left o else refusal_reply status.NotMyVbucket).answer ≡ answer.Found doc → o ≡ Some doc
some_at true true o doc e a = cc
some_at true false None doc e a = cc
some_at true false (Some d) doc e a = let k : d ≡ doc = cc in ap Some k
some_at false left o doc e a = cc

sum_of : (rev : ℕ) → rev + 1 < 2 ^ 64 → successor rev ≡ rev + 1
sum_of rev l = omega arith

most_of : (rev : ℕ) → 2 ^ 64 ≤ rev + 1 → successor rev ≡ 2 ^ 64 - 1
most_of rev l = omega arith

pub follows : (vb : Plain) (key : List ℕ) → is_active vb.role ≡ true → IsNextRev vb key (new_rev (doc_at vb key))
follows vb key e = record {
  first = λ a. ap new_rev (none_at (is_active vb.role) (is_left vb.waiting (pending_of vb key)) (doc_at vb key) e a);
  next = λ old a l. ap new_rev (some_at (is_active vb.role) (is_left vb.waiting (pending_of vb key)) (doc_at vb key) old e a) ∙ sum_of old.rev l;
  last = λ old a l. ap new_rev (some_at (is_active vb.role) (is_left vb.waiting (pending_of vb key)) (doc_at vb key) old e a) ∙ most_of old.rev l;
}

said_left : (o : Op) (doc : Doc) → said (act_of o doc) ≡ Some (left_by o doc)
said_left op.Set doc = refl
said_left op.Add doc = refl
said_left op.Replace doc = refl
said_left op.Delete doc = refl

said_here : (write : Write) (change : Change) (doc : Doc) → change.key ≡ write.key → change.act ≡ act_of write.op doc → said_at change write.key ≡ Some (left_by write.op doc)
said_here write change doc k a =
    ap (λ b. if b then said change.act else None) ((bytes_eq-Decides change.key write.key).1 k) ∙ ap said a ∙ said_left write.op doc

pub said_there : (change : Change) (key : List ℕ) → key ≢ change.key → said_at change key ≡ None
said_there change key n =
    ap (λ b. if b then said change.act else None) (false_from_ne_true _ (λ e. n (sym ((bytes_eq-Decides change.key key).0 e))))

-- the document of a key after one more change
pub docs_pushed : (vb : Plain) (change : Change) (key : List ℕ) → get (fold applied vb.base (vb.held ++ change ∷ [])).docs key ≡ unwrap_or (said_at change key) (doc_at vb key)
docs_pushed vb change key = ap (λ (image : Picture). get image.docs key) (fold-append applied vb.base vb.held (change ∷ [])) ∙ docs-applied (image_in vb) change key

-- what waits at a key after one more change
pub pends_pushed : (vb : Plain) (change : Change) (key : List ℕ) → get (fold applied vb.base (vb.held ++ change ∷ [])).pending key ≡ get (applied (image_in vb) change).pending key
pends_pushed vb change key = ap (λ (image : Picture). get image.pending key) (fold-append applied vb.base vb.held (change ∷ []))

module _ (vb : Plain) (write : Write) (clock cas : ℕ) where
  here : doc_at (growth vb (write_change vb write cas) cas).0 write.key ≡ left_by write.op (written_doc write cas (new_rev (doc_at vb write.key)))
  here = docs_pushed vb (write_change vb write cas) write.key
      ∙ ap (λ o. unwrap_or o (doc_at vb write.key)) (said_here write (write_change vb write cas) (written_doc write cas (new_rev (doc_at vb write.key))) refl refl)

  there : (key : List ℕ) → key ≢ write.key → doc_at (growth vb (write_change vb write cas) cas).0 key ≡ doc_at vb key
  there key n = docs_pushed vb (write_change vb write cas) key ∙ ap (λ o. unwrap_or o (doc_at vb key)) (said_there (write_change vb write cas) key n)

  abbrev doc : Doc
  doc = written_doc write cas (new_rev (doc_at vb write.key))

  abbrev after : Plain
  after = (growth vb (write_change vb write cas) cas).0

  -- a write leaves nothing waiting at its key, where nothing waited, and all else as it was
  clear : pending_of vb write.key ≡ None → pending_of after write.key ≡ None
  clear n = pends_pushed vb (write_change vb write cas) write.key ∙ pend_none (image_in vb) (vb.position.at + 1) write.key (act_of write.op doc) (no_prepare write.op doc) n

  waits_there : (key : List ℕ) → key ≢ write.key → pending_of after key ≡ pending_of vb key
  waits_there key n = pends_pushed vb (write_change vb write cas) key ∙ pend_stays (image_in vb) (vb.position.at + 1) write.key (act_of write.op doc) key (λ e. n (sym e))

  told : (d : Option Doc) → is_active vb.role ≡ true → pending_of vb write.key ≡ None → doc_at after write.key ≡ d
      → (if is_active vb.role then get_reply (is_left vb.waiting (pending_of after write.key)) (doc_at after write.key) else refusal_reply status.NotMyVbucket).answer ≡ (doc_reply d).answer
  told d e n k =
      ap (λ (b : Bool). (if b then get_reply (is_left vb.waiting (pending_of after write.key)) (doc_at after write.key) else refusal_reply status.NotMyVbucket).answer) e
      ∙ ap (λ o. (get_reply (is_left vb.waiting o) (doc_at after write.key)).answer) (clear n) ∙ ap (λ o. (doc_reply o).answer) k

  written : is_active vb.role ≡ true → IsWritten vb write cas doc
  written e = record { value = refl; flags = refl; expiry = refl; datatype = refl; cas = refl; rev = follows vb write.key e }

  acts : (o : Op) → is_active vb.role ≡ true → pending_of vb write.key ≡ None → (change : Change) → change.act ≡ act_of o doc → doc_at after write.key ≡ left_by o doc → Acts o vb write cas after change
  acts op.Set e n change a k = (doc, written e, a, told (Some doc) e n k)
  acts op.Add e n change a k = (doc, written e, a, told (Some doc) e n k)
  acts op.Replace e n change a k = (doc, written e, a, told (Some doc) e n k)
  acts op.Delete e n change a k = (doc.rev, follows vb write.key e, a, told None e n k)

  made : is_active vb.role ≡ true → pending_of vb write.key ≡ None → cas ≡ new_cas clock vb.last_cas → (vb.last_cas + 1 < 2 ^ 64 → vb.last_cas < cas) → Made vb write clock (growth vb (write_change vb write cas) cas) (newest_branch vb.log) (vb.position.at + 1) cas
  made e n t r = record {
    branch = refl;
    seqno = refl;
    one = (write_change vb write cas, refl, refl, refl, acts write.op e n (write_change vb write cas) refl here);
    told = (refl, refl, refl);
    grows = refl;
    position = refl;
    timed = t;
    rises = r;
    counted = refl;
    stays = refl;
    others = λ key m. ap (λ (x : Option Pend × Option Doc). if is_active vb.role then get_reply (is_left vb.waiting x.0) x.1 else refusal_reply status.NotMyVbucket) (λ i. (waits_there key m i, there key m i));
  }

pub cas_above : (clock last : ℕ) → last + 1 < 2 ^ 64 → last < new_cas clock last
cas_above clock last l = omega arith

stored : (vb : Plain) (write : Write) (clock kept uuid seq cas : ℕ) (why : Option Status) → kept ≡ new_cas clock vb.last_cas → (vb.last_cas + 1 < 2 ^ 64 → vb.last_cas < kept) → store_refusal vb write ≡ why → (store_outcome why vb write kept).1.answer ≡ answer.Stored uuid seq cas
    → Made vb write clock (store_outcome why vb write kept) uuid seq cas
stored vb write clock kept uuid seq cas (Some st) t r e a = cc
stored vb write clock kept uuid seq cas None t r e a =
    let u : newest_branch vb.log ≡ uuid = cc in
    let s : vb.position.at + 1 ≡ seq = cc in
    let k : kept ≡ cas = cc in
    let after = growth vb (write_change vb write kept) kept in
    subst (λ n. Made vb write clock after n seq cas) u (subst (λ n. Made vb write clock after (newest_branch vb.log) n cas) s
    (subst (λ n. Made vb write clock after (newest_branch vb.log) (vb.position.at + 1) n) k (made vb write clock kept (active_of vb.role (lacks_seqnos vb 1) (key_refusal vb write) e) (nothing_waits vb.waiting (pending_of vb write.key) (doc_refusal write.op write.cas (doc_at vb write.key)) (said_none vb.role (lacks_seqnos vb 1) (key_refusal vb write) e)).0 t r)))

pub are_read : WritesAreRead
are_read vb write clock uuid seq cas a = stored vb write clock (new_cas clock vb.last_cas) uuid seq cas (store_refusal vb write) refl (cas_above clock vb.last_cas) refl a
