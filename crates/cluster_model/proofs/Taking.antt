-- what spans give is a snapshot
use Rattle.std.proofs.Common.{◌≡◌, ℕ, ◌<◌, ◌≤◌, true, List, [], ◌∷◌, ltb, refl, ap, sym, ◌∙◌, subst, inl, inr, ⊎_elim, arith}
use Rattle.std.specs.Prelude.{Some}
use Rattle.std.specs.List.{filter, flat_map}
use Rattle.std.proofs.lemmas.List.{append-nil}
use Rattle.std.specs.Str.{bytes_eq}
use Rattle.std.proofs.lemmas.Slice.Eq.{bytes_eq-Decides}
use Rattle.std.proofs.lemmas.Bool.{cases_lt, and_parts, and_from, ltb-true, lt-ltb, eq-eqb}
use Rattle.vb_types.specs.declared.change.Act.{Act}
use Rattle.vb_types.specs.declared.change.Act.TheVariants.{Set, Remove, Prepare, Commit, Abort}
use Rattle.vb_types.specs.declared.change.Change.{Change}
use Rattle.vb_types.specs.Histories.{upto, Rises, IsIn, Slot, touches, last_of, is_visible}
use Rattle.branch_model.specs.Snapshots.{Remains, Covers, has_seq}
use Rattle.cluster_model.specs.Spans.{is_write, kept, Tidy, AllTidy, InSpans, InTurn, taken, Holds}
use Rattle.branch_model.proofs.Lists.{in_append, in_left, in_right, from_upto, upto_in, rises_upto, rises_append, rises_in, last_in, last_above, same_seq}
use Rattle.branch_model.proofs.Lasts.{in_filter, kept_in_filter, rises_above, rises_filter, remains_cover}

-- a write touches each slot of its key
write_visible : (a : Act) → is_write a ≡ true → is_visible a ≡ true
write_visible (Set doc) e = refl
write_visible (Remove cas rev) e = refl
write_visible (Prepare level doc deleted) e = cc
write_visible (Commit prepared doc deleted) e = refl
write_visible (Abort prepared) e = cc

write_touches : (s : Slot) (c d : Change) → touches s c ≡ true → c.key ≡ d.key → is_write d.act ≡ true → touches s d ≡ true
write_touches (Slot.Committed q) c d t e w = and_from _ _ (ap (λ k. bytes_eq k q) (sym e) ∙ (and_parts _ _ t).0) (write_visible d.act w)
write_touches (Slot.Pending q) c d t e w = ap (λ k. bytes_eq k q) (sym e) ∙ t

same_pending : (c d : Change) → touches (Slot.Pending c.key) d ≡ true → c.key ≡ d.key
same_pending c d t = sym ((bytes_eq-Decides d.key c.key).0 t)

own_pending : (c : Change) → touches (Slot.Pending c.key) c ≡ true
own_pending c = (bytes_eq-Decides c.key c.key).1 refl

-- a slot's last change of h stays in its span
span_keeps : (top a b end : ℕ) (h w : List Change) (s : Slot) (c : Change) → Rises 0 top h → Rises a b w → Tidy w → ((d : Change) → IsIn d w → IsIn d h × (d.seq ≤ end)) → last_of s (upto h end) ≡ Some c → IsIn c w → IsIn c (kept w)
span_keeps top a b end h w s c rh rw t each e i =
    let d = last_above (touches (Slot.Pending c.key)) a b w c rw i (own_pending c) in
    let x = last_in (touches (Slot.Pending c.key)) w d.0 d.1 in
    let k = same_pending c d.0 x.1 in
    let l : c.seq ≤ d.0.seq = d.2 in
    let y = each d.0 x.0 in
    let same : c ≡ d.0 = ⊎_elim
    (λ (m : c.seq < d.0.seq).
    let wr = t c d.0 i x.0 k m in
    let ts = write_touches s c d.0 (last_in (touches s) (upto h end) c e).1 k wr in
    let z = last_above (touches s) 0 end (upto h end) d.0 (rises_upto 0 top end h (omega arith) rh) (upto_in d.0 h end y.0 y.1) ts in
    let ez : c ≡ z.0 = (let q : Some c ≡ Some z.0 = sym e ∙ z.1 in cc) in
    let es : c.seq ≡ z.0.seq = ap (λ (v : Change). v.seq) ez in
    let lz : d.0.seq ≤ z.0.seq = z.2 in
    absurd (omega arith))
    (λ (m : d.0.seq ≤ c.seq). same_seq a b w c d.0 rw i x.0 (omega arith))
    (cases_lt c.seq d.0.seq) in
    kept_in_filter (λ v. has_seq v.seq (last_of (Slot.Pending v.key) w)) c w i (ap (has_seq c.seq) d.1 ∙ eq-eqb d.0.seq c.seq (ap (λ (v : Change). v.seq) (sym same)))

in_turn_rises : (a end : ℕ) (ws : List (List Change)) → InTurn a end ws → Rises a end (flat_map kept ws)
in_turn_rises a end [] r = r
in_turn_rises a end (w ∷ ws) r = rises_append a r.0 end (kept w) (flat_map kept ws) (rises_filter (λ v. has_seq v.seq (last_of (Slot.Pending v.key) w)) a r.0 w r.1) (in_turn_rises r.0 end ws r.2)

kept_in : (c : Change) (ws : List (List Change)) → IsIn c (flat_map kept ws) → InSpans c ws
kept_in c [] i = absurd i
kept_in c (w ∷ ws) i = ⊎_elim (λ j. inl (in_filter (λ v. has_seq v.seq (last_of (Slot.Pending v.key) w)) c w j).0) (λ j. inr (kept_in c ws j)) (in_append c (kept w) (flat_map kept ws) i)

spans_keep : (top a end : ℕ) (h : List Change) (ws : List (List Change)) (s : Slot) (c : Change) → Rises 0 top h → InTurn a end ws → AllTidy ws → ((d : Change) → InSpans d ws → IsIn d h × (d.seq ≤ end))
    → last_of s (upto h end) ≡ Some c → InSpans c ws → IsIn c (flat_map kept ws)
spans_keep top a end h [] s c rh r t each e i = i
spans_keep top a end h (w ∷ ws) s c rh r t each e i = ⊎_elim
    (λ j. in_left c (kept w) (flat_map kept ws) (span_keeps top a r.0 end h w s c rh r.1 t.0 (λ d x. each d (inl x)) e j))
    (λ j. in_right c (kept w) (flat_map kept ws) (spans_keep top r.0 end h ws s c rh r.2 t.1 (λ d x. each d (inr x)) e j)) i

-- a take through whole spans is what has to come
pub taken_remains : (top a from end : ℕ) (h : List Change) (ws : List (List Change)) → Rises 0 top h → InTurn a end ws → from ≤ end → Holds ws h from end → Remains (taken ws from) h from end
taken_remains top a from end h ws rh r l hd =
    let test = λ (c : Change). ltb from c.seq in
    record {
      rises = rises_above test a end from (flat_map kept ws) (λ c t. ltb-true from c.seq t) l (in_turn_rises a end ws r);
      of = λ x i. let j = hd.each x (kept_in x ws (in_filter test x (flat_map kept ws) i).0) in (x, j.0, inl refl);
      has = λ s c e f t.
          let j = from_upto c h end (last_in (touches s) (upto h end) c e).0 in
          (c, kept_in_filter test c (flat_map kept ws) (spans_keep top a end h ws s c rh r hd.tidy hd.each e (hd.all c j.0 f t)) (lt-ltb from c.seq f), inl refl);
    }

-- what one span of a node's own changes keeps above a place is a whole snapshot of what is held
pub own_span : (top a place end : ℕ) (held w : List Change) (c : Change) → Rises 0 top held → Rises a end w → Tidy w → ((x : Change) → IsIn x w → IsIn x held) → ((x : Change) → IsIn x held → place < x.seq → x.seq ≤ end → IsIn x w)
    → place < end → IsIn c held → c.seq ≡ end → Covers (filter (λ x. ltb place x.seq) (kept w)) held place end
own_span top a place end held w c rh rw t sub all l i e =
    remains_cover top held (filter (λ x. ltb place x.seq) (kept w)) place end c rh l i e
    (subst (λ xs. Remains (filter (λ x. ltb place x.seq) xs) held place end) (append-nil (kept w))
    (taken_remains top a place end held (w ∷ []) rh (end, rw, omega arith) (omega arith)
    (record {
      tidy = (t, tt);
      each = λ x j. ⊎_elim (λ k. (sub x k, (rises_in a end w x rw k).1)) (λ k. absurd k) j;
      all = λ x j f u. inl (all x j f u);
    })))

-- and so is all that is held of a received one
pub received_span : (top place end : ℕ) (held : List Change) (c : Change) → Rises 0 top held → place < end → IsIn c held → c.seq ≡ end → Covers (filter (λ x. ltb place x.seq) (upto held end)) held place end
received_span top place end held c rh l i e =
    let test = λ (x : Change). ltb place x.seq in
    remains_cover top held (filter test (upto held end)) place end c rh l i e
    (record {
      rises = rises_above test 0 end place (upto held end) (λ x t. ltb-true place x.seq t) (omega arith) (rises_upto 0 top end held (omega arith) rh);
      of = λ x j. (x, (from_upto x held end (in_filter test x (upto held end) j).0).0, inl refl);
      has = λ s x q f t. (x, kept_in_filter test x (upto held end) (last_in (touches s) (upto held end) x q).0 (lt-ltb place x.seq f), inl refl);
    })
