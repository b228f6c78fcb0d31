-- what holds of all disks between lines
use Rattle.std.specs.Prelude.{◌≡◌, ℕ, Option, Some, None}
use Rattle.vb_calls.specs.Shelves.{Shelf}
use Rattle.vb_disk.specs.declared.fuse.Fuse.TheVariants.{Off}
use Rattle.node_world.specs.Worlds.{PlainWorld, shelf_in}

-- no arm is over the disk of a journal, where there is one
abbrev pub RestsIf : Option Shelf → Type 0
RestsIf None = Unit {0}
RestsIf (Some shelf) = shelf.fuse ≡ Off

-- no arm is over any disk. It is so between lines: an arm is put over a disk inside a line, and taken off it there
abbrev pub Rests : PlainWorld → Type 0
Rests w = (n v : ℕ) → RestsIf (shelf_in (w.nodes n) v)
