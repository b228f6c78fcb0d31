-- a batch can be written down
use Rattle.std.proofs.Common.{◌≡◌, ℕ, ◌≤◌, true, List, [], ◌∷◌, length, refl, arith}
use Rattle.std.specs.Prelude.{◌+◌, ◌<◌, ◌&&◌, nat_le, sum_by}
use Rattle.std.proofs.lemmas.Bool.Decides.{nat_tests}
use Rattle.std.proofs.lemmas.List.Sums.{sum_by-cons}
use Rattle.vb_types.specs.declared.change.Act.TheVariants as act
use Rattle.vb_types.specs.declared.change.Change.{Change}
use Rattle.vb_types.specs.declared.journal.Batch.{Batch}
use Rattle.vb_types.specs.declared.journal.Record.TheVariants.{Rows}
use Rattle.vb_types.specs.Histories.{Rises}
use Rattle.branch_model.specs.Logs.{log_limit}
use Rattle.vb_calls.specs.Spans.{change_weight, value_size}
use Rattle.vb_types.specs.declared.change.Act.{Act}
use Rattle.vb_journal.specs.Payloads.{is_below, is_writable, payload_of, rise}
use Rattle.vb_journal.specs.Sizes.{act_size, item_size, payload_size}
use Rattle.vb_journal.proofs.Sizes.{length_payload}
use Rattle.checkpoint.specs.Checkpoints.{items_weight}
use Rattle.ckpt_list.specs.Sound.{IsBatch}
use Rattle.vbucket.proofs.Parts.{conj}

-- an act takes fewer bytes than a change weighs beside its key

act_light : (a : Act) → 10 + act_size a ≤ 64 + value_size a
act_light (act.Set doc) = omega arith
act_light (act.Remove cas rev) = omega arith
act_light (act.Prepare level doc deleted) = omega arith
act_light (act.Commit prepared doc deleted) = omega arith
act_light (act.Abort prepared) = omega arith

item_light : (c : Change) → item_size c ≤ change_weight c
item_light c = let k = act_light c.act in omega arith

items_light : (items : List Change) → sum_by item_size items ≤ items_weight items
items_light [] = omega arith
items_light (c ∷ cs) = omega (arith, items_light cs, item_light c, sum_by-cons item_size c cs, sum_by-cons change_weight c cs)

rises_on : (low high : ℕ) (items : List Change) → Rises low high items → rise items ≡ true
rises_on low high [] r = refl
rises_on low high (c ∷ cs) r = conj (is_below c.seq cs) (rise cs) (next c.seq cs r.1) (rises_on c.seq high cs r.1)
  where
    next : (n : ℕ) (xs : List Change) → Rises n high xs → is_below n xs ≡ true
    next n [] q = refl
    next n (x ∷ xs) q = let l : n < x.seq = q.0 in grind (arith, nat_tests)

short : (n : ℕ) → n ≤ log_limit → nat_le n 25 ≡ true
short n l = grind (arith, nat_tests)

fits : (n : ℕ) → n ≤ 33599999 → nat_le n 33599999 ≡ true
fits n l = grind (arith, nat_tests)

pub may_be_written : (b : Batch) (low high : ℕ) → length b.log ≤ log_limit → IsBatch low high b.items → is_writable (Rows b) ≡ true
unfolding is_writable
may_be_written b low high log is =
    let size : length (payload_of (Rows b)) ≡ payload_size (Rows b) = length_payload (Rows b) in
    let light = items_light b.items in
    let heavy = is.light in
    conj (nat_le (length b.log) 25 && rise b.items) (nat_le (length (payload_of (Rows b))) 33599999)
    (conj (nat_le (length b.log) 25) (rise b.items) (short (length b.log) log) (rises_on low high b.items is.rises)) (fits (length (payload_of (Rows b))) (omega (arith, size, light, heavy, log)))
