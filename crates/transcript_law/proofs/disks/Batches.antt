-- the changes of a batch, the span that it is taken from, a vBucket of which more counts as saved, and spans that are filled
use Rattle.std.specs.Prelude.{◌≡◌, ◌+◌, ◌<◌, ◌≤◌, ◌∷◌, ◌++◌, ◌&&◌, if◌then◌else◌}
use Rattle.transcript_law.proofs.Words.{ℕ, Bool, true, false, List, [], length, refl, ap, sym, ◌∙◌, subst, arith, inl, inr, ⊎_elim, Some, Plain, Span, Sound, Change, last_seq, IsIn, Rises, cond, ltb-true, rises_in, Own, Received, flat_map, length-append, list_any}
use Rattle.transcript_law.proofs.{invariant.Wholes.{IsSpanIn}}
use Rattle.std.specs.List.{find}
use Rattle.std.specs.Prelude.{nat_le, nat_lt}
use Rattle.std.specs.Str.{bytes_eq}
use Rattle.std.proofs.lemmas.Bool.{and_from, le-leb, lt-ltb}
use Rattle.branch_model.proofs.Lasts.{kept_in_filter}
use Rattle.vb_calls.specs.Spans.{key_lasts, live_in, live_of, span_position, stretch}
use Rattle.vb_calls.specs.declared.span.Origin.{Origin}
use Rattle.vbucket.specs.Laws.{AllSpans, Follow}

-- of lists of changes that rise, one whose seqnos are all in the other is no longer
pub fewer : (a b m d : ℕ) (xs ys : List Change) → Rises a b xs → Rises m d ys → ((x : Change) → IsIn x xs → (y : Change) × IsIn y ys × (x.seq ≡ y.seq)) → length xs ≤ length ys
fewer a b m d [] ys rx ry sub = omega arith
fewer a b m d (x ∷ xs) [] rx ry sub = absurd (sub x (inl refl)).1
fewer a b m d (x ∷ xs) (y ∷ ys) rx ry sub = ⊎_elim
    (λ e.
    let same : x.seq ≡ y.seq = (sub x (inl refl)).2 ∙ ap (λ (z : Change). z.seq) e in
    let rest : length xs ≤ length ys = fewer x.seq b y.seq d xs ys rx.1 ry.1 (λ t i. let p = sub t (inr i) in let up : x.seq < t.seq = (rises_in x.seq b xs t rx.1 i).0 in
    ⊎_elim (λ q. let z : t.seq ≡ y.seq = p.2 ∙ ap (λ (z : Change). z.seq) q in absurd (omega arith)) (λ q. (p.0, q, p.2)) p.1) in omega arith)
    (λ i.
    let up : y.seq < (sub x (inl refl)).0.seq = (rises_in y.seq d ys (sub x (inl refl)).0 ry.1 i).0 in let level : x.seq ≡ (sub x (inl refl)).0.seq = (sub x (inl refl)).2 in
    let rest : length (x ∷ xs) ≤ length ys = fewer a b y.seq d (x ∷ xs) ys rx ry.1 (λ t j. let p = sub t j in
    let low : x.seq ≤ t.seq = ⊎_elim (λ (q : t ≡ x). let z : t.seq ≡ x.seq = ap (λ (z : Change). z.seq) q in omega arith) (λ q. let z : x.seq < t.seq = (rises_in x.seq b xs t rx.1 q).0 in omega arith) j in
    ⊎_elim (λ q. let z : t.seq ≡ y.seq = p.2 ∙ ap (λ (z : Change). z.seq) q in absurd (omega arith)) (λ q. (p.0, q, p.2)) p.1) in omega arith)
    (sub x (inl refl)).1

-- a snapshot has changes
pub some_items : (from end : ℕ) (xs : List Change) → from < end → last_seq from xs ≡ end → 0 < length xs
some_items from end [] l e = let z : from ≡ end = e in absurd (omega arith)
some_items from end (x ∷ xs) l e = omega arith

-- where a span's batch ends
pub at_end : (o : Origin) (n : ℕ) → (span_position o n).at ≡ n
at_end Own n = refl
at_end (Received ss se) n = refl

-- the span that is found, and that it goes on there
pub span_found : (n : ℕ) (ws : List Span) (x : Span) → find (λ (y : Span). nat_lt n y.last) ws ≡ Some x → IsSpanIn x ws × (n < x.last)
span_found n [] x e = cc
span_found n (y ∷ ys) x e = by (nat_lt n y.last) refl e (span_found n ys x)
  where
    by : (b : Bool) → nat_lt n y.last ≡ b → cond b (Some y) (find (λ (z : Span). nat_lt n z.last) ys) ≡ Some x → (find (λ (z : Span). nat_lt n z.last) ys ≡ Some x → IsSpanIn x ys × (n < x.last)) → IsSpanIn x (y ∷ ys) × (n < x.last)
    by true t q rest = let s : y ≡ x = cc in (inl (sym s), subst (λ (z : Span). n < z.last) s (ltb-true n y.last t))
    by false t q rest = let p = rest q in (inr p.0, p.1)

-- a vBucket of which more counts as saved is sound as it was
pub saved_sound : (vb : Plain) (saved : ℕ) → Sound vb → vb.floor ≤ saved → Sound (record vb { saved = saved })
saved_sound vb saved s l = record { spanned = s.spanned; placed = s.placed; stamped = s.stamped; based = s.based; saved = l; counted = s.counted; feeds = s.feeds }

-- where there are changes, one is live
lasts_some : (xs : List Change) (c : Change) → IsIn c xs → 0 < length (key_lasts xs)
lasts_some [] c i = absurd i
lasts_some (x ∷ []) c i = omega arith
lasts_some (x ∷ y ∷ ys) c i = by (list_any (λ d. bytes_eq d.key x.key) (y ∷ ys)) (lasts_some (y ∷ ys) y (inl refl))
  where
    by : (b : Bool) → 0 < length (key_lasts (y ∷ ys)) → 0 < length (if b then key_lasts (y ∷ ys) else x ∷ key_lasts (y ∷ ys))
    by true l = l
    by false l = omega arith

live_some : (o : Origin) (xs : List Change) (c : Change) → IsIn c xs → 0 < length (live_of o xs)
live_some Own xs c i = lasts_some xs c i
live_some (Received ss se) [] c i = absurd i
live_some (Received ss se) (x ∷ xs) c i = omega arith

-- no span is empty
pub spans_filled : (low high : ℕ) (h : List Change) (ws : List Span) → Follow low ws high → AllSpans h ws → length ws ≤ length (flat_map (λ x. live_in x h) ws)
spans_filled low high h [] f t = omega arith
spans_filled low high h (x ∷ xs) f t =
    let rest = spans_filled x.last high h xs f.2 t.1 in
    let above_is : x.above ≡ low = f.0 in let up : low < x.last = f.1 in let (last, there, ends) = t.0.ends in let level : last.seq ≡ x.last = ends in
    let some = live_some x.origin (stretch x.above x.last h) last (kept_in_filter (λ d. nat_lt x.above d.seq && nat_le d.seq x.last) last h there
    (and_from (nat_lt x.above last.seq) (nat_le last.seq x.last) (lt-ltb x.above last.seq (omega arith)) (le-leb last.seq x.last (omega arith)))) in
    let all : length (live_in x h ++ flat_map (λ x. live_in x h) xs) ≡ length (live_in x h) + length (flat_map (λ x. live_in x h) xs) = length-append (live_in x h) (flat_map (λ x. live_in x h) xs) in
    omega arith
