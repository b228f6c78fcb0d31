-- what is kept of a vBucket that becomes active
use Rattle.std.proofs.Common.{◌≡◌, ℕ, Bool, true, false, List, [], ◌∷◌, ◌++◌, map, refl, ap, sym, subst, ◌∙◌, arith, append_assoc, append-nil}
use Rattle.std.specs.Prelude.{if◌then◌else◌, nat_le, nat_lt}
use Rattle.std.specs.FinMap as finite
use Rattle.std.specs.List.{filter, fold}
use Rattle.std.proofs.lemmas.List.{map-append}
use Rattle.durability.specs.declared.waiting.Waiting.{Waiting}
use Rattle.durability.specs.Outstanding.{Known, Rises as Climbs, placed}
use Rattle.durability.proofs.Rising.{AtMost, at_most, rises_placed, upto_parts}
use Rattle.hash_table.specs.Tables as table
use Rattle.vb_types.specs.Images.{Picture, applied}
use Rattle.vb_types.specs.declared.change.Change.{Change}
use Rattle.vb_types.specs.declared.change.Pend.{Pend}
use Rattle.vb_types.specs.declared.position.Position.{Position}
use Rattle.vb_calls.specs.Settling.{left_prepare, left_prepares}
use Rattle.vb_calls.specs.State.{complete_position}
use Rattle.ckpt_list.specs.Lists.{sealed_list}
use Rattle.vbucket.specs.Kept.{Kept}
use Rattle.vbucket.specs.Promoting.{risen_by, turned_active, unfed, with_left}
use Rattle.vbucket.specs.Settling.{waiting_behind, with_made, with_own}
use Rattle.vbucket.proofs.Carrying.{made_all, own_all, own_position, own_queued}

abbrev Entry : Type 0
Entry = List ℕ × Pend

-- the prepares that wait, as a table lists them

-- one stands where its entry does
placed_as : (es : List Entry) (e : Entry) → map left_prepare (table.placed es e) ≡ placed (left_prepare e) (map left_prepare es)
placed_as es e =
    map-append left_prepare (filter (λ (d : Entry). nat_le d.1.seq e.1.seq) es) (e ∷ filter (λ (d : Entry). nat_lt e.1.seq d.1.seq) es)
    ∙ (λ i. same (λ n. nat_le n e.1.seq) es i ++ left_prepare e ∷ same (λ n. nat_lt e.1.seq n) es i)
  where
    same : (p : ℕ → Bool) (ds : List Entry) → map left_prepare (filter (λ (d : Entry). p d.1.seq) ds) ≡ filter (λ (w : Waiting). p w.seq) (map left_prepare ds)
    same p [] = refl
    same p (d ∷ ds) = by (p d.1.seq) (same p ds)
      where
        by : (b : Bool) → map left_prepare (filter (λ (d : Entry). p d.1.seq) ds) ≡ filter (λ (w : Waiting). p w.seq) (map left_prepare ds)
            → map left_prepare (if b then d ∷ filter (λ (d : Entry). p d.1.seq) ds else filter (λ (d : Entry). p d.1.seq) ds)
            ≡ (if b then left_prepare d ∷ filter (λ (w : Waiting). p w.seq) (map left_prepare ds) else filter (λ (w : Waiting). p w.seq) (map left_prepare ds))
        by true e = ap (λ ws. left_prepare d ∷ ws) e
        by false e = e

all_as : (es done : List Entry) → fold with_left (map left_prepare done) es ≡ map left_prepare (fold table.placed done es)
all_as [] done = refl
all_as (e ∷ es) done = ap (λ ws. fold with_left ws es) (sym (placed_as done e)) ∙ all_as es (table.placed done e)

rises_all : (es : List Entry) (ws : List Waiting) → Climbs 0 ws → Climbs 0 (fold with_left ws es)
rises_all [] ws r = r
rises_all (e ∷ es) ws r = rises_all es (with_left ws e) (rises_placed 0 (left_prepare e) ws (omega arith) r)

most_front : (q : ℕ) (ws : List Waiting) (v : Waiting) → AtMost q (ws ++ v ∷ []) → AtMost q ws
most_front q [] v a = tt
most_front q (w ∷ ws) v a = (a.0, most_front q ws v a.1)

-- those that come by rising seqnos stand in the order in which they come
in_order : (es : List Entry) (done : List Waiting) → Climbs 0 (done ++ map left_prepare es) → fold with_left done es ≡ done ++ map left_prepare es
in_order [] done r = sym (append-nil done)
in_order (e ∷ es) done r =
    let w : Waiting = left_prepare e in
    let parts = upto_parts w.seq done (most_front w.seq done w (at_most w.seq 0 done w (map left_prepare es) r (omega arith))) in
    let last : with_left done e ≡ done ++ w ∷ [] = λ i. parts.0 i ++ w ∷ parts.1 i in
    let joined : (done ++ w ∷ []) ++ map left_prepare es ≡ done ++ w ∷ map left_prepare es = append_assoc done (w ∷ []) (map left_prepare es) in
    ap (λ ws. fold with_left ws es) last ∙ in_order es (done ++ w ∷ []) (subst (Climbs 0) (sym joined) r) ∙ joined

pub left_listed : (image : Picture) → fold with_left [] (table.by_seqnos image.pending) ≡ left_prepares image
left_listed image =
    let es : List Entry = finite.entries image.pending in
    let listed : fold with_left [] es ≡ map left_prepare (table.by_seqnos image.pending) = all_as es [] in
    in_order (table.by_seqnos image.pending) [] (subst (Climbs 0) listed (rises_all es [] tt)) ∙ sym listed

-- changes that are made, and then the vBucket is active

position_same : (p : Position) (cs : List Change) → complete_position (own_position p cs).at ≡ own_position (complete_position p.at) cs
position_same p [] = refl
position_same p (c ∷ cs) = position_same (complete_position c.seq) cs

-- and feeds no stream
abbrev no_streams : Kept → Kept
no_streams k = record k { list = unfed k.list }

pub turned_all : (k : Kept) (left : Known) (cs : List Change)
    → turned_active (fold with_made (record k { list = sealed_list k.list }) cs) left cs ≡ record { rest = (fold with_own (risen_by k left) cs).rest; list = unfed (fold with_own (risen_by k left) cs).list }
turned_all k left cs =
    let sealed : Kept = record k { list = sealed_list k.list } in
    let risen : Kept = risen_by k left in
    ap (λ (m : Kept). turned_active m left cs) (made_all sealed cs)
    ∙ (λ i. let m : Kept = record {
      rest = record risen.rest { base = fold applied k.rest.base cs; position = position_same k.rest.position cs i; waiting = fold waiting_behind left.waiting cs };
      list = unfed (own_queued (sealed_list k.list) cs);
    } in m)
    ∙ ap no_streams (sym (own_all risen cs))

-- the failover log stays
pub log_stays : (k : Kept) (left : Known) (cs : List Change) → (fold with_own (risen_by k left) cs).rest.log ≡ k.rest.log
log_stays k left cs = ap (λ (m : Kept). m.rest.log) (own_all (risen_by k left) cs)
