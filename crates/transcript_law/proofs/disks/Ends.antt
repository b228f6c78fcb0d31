-- where the batches end that a vBucket wrote down, as the lines tell it
use Rattle.std.specs.Prelude.{◌≡◌, ◌≤◌, ◌∷◌}
use Rattle.transcript_law.proofs.Words.{ℕ, Bool, true, false, cond, List, [], map, filter, refl, ap, sym, ◌∙◌, subst, arith, nat_le, Change}
use Rattle.{branch_model.specs.Journals.{batches, end_of, place_of, points, Covered}, cluster_model.proofs.Backfilling.{end_low}, cluster_model.specs.Clusters.{Disk, IsBatchEnd}}
use Rattle.{transcript_law.specs.Chronicles.{DiskKnown, known_batch, stood}, vb_calls.specs.Shelves.{Shelf}, vb_types.specs.declared.journal.Batch.{Batch}, vb_types.specs.declared.journal.Record.{Record}}
use Rattle.vb_types.specs.declared.journal.Record.TheVariants as noted
use Rattle.transcript_law.proofs.disks.Disks.{Parts, ShelfIs, bare}

-- a batch as lines tell it
abbrev pub bare_batch : Batch → Batch
bare_batch b = known_batch b.position b.log

bare_cut : (to : ℕ) (bs : List Batch) → filter (λ b. nat_le b.position.at to) (map bare_batch bs) ≡ map bare_batch (filter (λ b. nat_le b.position.at to) bs)
bare_cut to [] = refl
bare_cut to (b ∷ bs) = by (nat_le b.position.at to) (bare_cut to bs)
  where
    by : (k : Bool) → filter (λ b. nat_le b.position.at to) (map bare_batch bs) ≡ map bare_batch (filter (λ b. nat_le b.position.at to) bs)
        → cond k (bare_batch b ∷ filter (λ b. nat_le b.position.at to) (map bare_batch bs)) (filter (λ b. nat_le b.position.at to) (map bare_batch bs)) ≡ map bare_batch (cond k (b ∷ filter (λ b. nat_le b.position.at to) bs) (filter (λ b. nat_le b.position.at to) bs))
    by true e = ap (λ xs. bare_batch b ∷ xs) e
    by false e = e

pub bare_batches : (js : List Record) → batches (map bare js) ≡ map bare_batch (batches js)
bare_batches [] = refl
bare_batches (noted.State role log ∷ older) = bare_batches older
bare_batches (noted.Rows b ∷ older) = ap (λ bs. bare_batch b ∷ bs) (bare_batches older)
bare_batches (noted.Roll to ∷ older) = ap (filter (λ b. nat_le b.position.at to)) (bare_batches older) ∙ bare_cut to (batches older)

-- it ends where the journal's does
bare_spots : (bs : List Batch) → map (λ (b : Batch). b.position) (map bare_batch bs) ≡ map (λ (b : Batch). b.position) bs
bare_spots [] = refl
bare_spots (b ∷ bs) = ap (λ ps. b.position ∷ ps) (bare_spots bs)

pub bare_points : (js : List Record) → points (map bare js) ≡ points js
bare_points js = ap (map (λ (b : Batch). b.position)) (bare_batches js) ∙ bare_spots (batches js)

module _ {told : DiskKnown} {d : Disk} {shelf : Shelf} {x : Parts} (a : ShelfIs told d shelf x) where
  -- so lines tell where its batches end
  pub told_ends : stood told ≡ points d.book
  told_ends = ap points a.told_book ∙ bare_points shelf.book ∙ ap points (sym a.book)

  -- and that what counts as saved is such an end
  pub told_saved : IsBatchEnd told.saved (stood told)
  told_saved = subst (λ n. IsBatchEnd n (stood told)) (sym a.saved) (subst (IsBatchEnd x.saved) (sym told_ends) a.ended)

  -- no more counts as saved than the journal has
  pub saved_low : (held : List Change) → Covered held (batches d.book) → (place_of d.book).at ≡ end_of (batches d.book) → x.saved ≤ (place_of d.book).at
  saved_low held covered ends = let low : x.saved ≤ end_of (batches d.book) = end_low held (batches d.book) x.saved covered a.ended in omega arith
