-- parts of durable writes, and one more
use Rattle.std.proofs.Common.{◌≡◌, ℕ, ◌<◌, true, List, [], ◌∷◌, ◌++◌, refl}
use Rattle.vb_types.specs.declared.change.Change.{Change}
use Rattle.vb_calls.specs.Spans.{is_durable}
use Rattle.ckpt_list.specs.Windows.{ArePartsAbove}

-- the last seqno, or the one that they are above
abbrev pub end_of : ℕ → List Change → ℕ
end_of n [] = n
end_of n (c ∷ cs) = end_of c.seq cs

pub parts_push : (low : ℕ) (cs : List Change) (c : Change) → ArePartsAbove low cs → end_of low cs < c.seq → is_durable c.act ≡ true → ArePartsAbove low (cs ++ c ∷ [])
parts_push low [] c h up part = (up, part, tt)
parts_push low (d ∷ ds) c h up part = (h.0, h.1, parts_push d.seq ds c h.2 up part)

pub end_push : (low : ℕ) (cs : List Change) (c : Change) → end_of low (cs ++ c ∷ []) ≡ c.seq
end_push low [] c = refl
end_push low (d ∷ ds) c = end_push d.seq ds c
