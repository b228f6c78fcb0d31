-- what a checkpoint takes in and keeps, in other words
use Rattle.std.specs.Prelude.{◌≡◌, ◌≢◌, ◌↔◌, ℕ, Bool, true, false, ◌+◌, ◌<◌, ◌≤◌, List, [], ◌∷◌, ◌++◌, length, Option, None, Some, ◌⊎◌}
use Rattle.std.specs.List.{fold}
use Rattle.vb_types.specs.declared.change.Act.{Act}
use Rattle.vb_types.specs.declared.change.Act.TheVariants as act
use Rattle.vb_types.specs.declared.change.Change.{Change}
use Rattle.vb_types.specs.declared.change.Level.{Level}
use Rattle.vb_types.specs.declared.doc.Doc.{Doc}
use Rattle.vb_types.specs.Histories.{Rises, IsIn}
use Rattle.vb_calls.specs.Spans.{change_weight, is_durable}
use Rattle.checkpoint.specs.Checkpoints.{Ckpt, ckpt_last, ckpt_with, cut_to, entered, fits_in, items_above}
use Rattle.checkpoint.specs.Runs.{change_at, changes_there, closed_up, lacking}

-- what a change of this key with this act weighs
abbrev pub Weighs : List ℕ → Act → ℕ → Type 0
Weighs key a n = (seq : ℕ) → change_weight (record { seq = seq; key = key; act = a }) ≡ n

-- 64 and the bytes of the key, and those of the value that it carries
abbrev pub WeighsInNumbers : Type 0
WeighsInNumbers = (key : List ℕ) (doc : Doc) (level : Level) (deleted : Bool) (prepared cas rev : ℕ)
    → Weighs key (act.Set doc) (64 + length key + length doc.value)
    × Weighs key (act.Remove cas rev) (64 + length key)
    × Weighs key (act.Prepare level doc deleted) (64 + length key + length doc.value)
    × Weighs key (act.Commit prepared doc deleted) (64 + length key + length doc.value)
    × Weighs key (act.Abort prepared) (64 + length key)

-- what changes weigh together
abbrev pub total_weight : List Change → ℕ
total_weight [] = 0
total_weight (c ∷ cs) = change_weight c + total_weight cs

-- no part of a durable write: a set or a removal
abbrev pub IsPlain : Act → Type 0
IsPlain (act.Set doc) = Unit {0}
IsPlain (act.Remove cas rev) = Unit {0}
IsPlain (act.Prepare level doc deleted) = ⊥
IsPlain (act.Commit prepared doc deleted) = ⊥
IsPlain (act.Abort prepared) = ⊥

-- no two changes have one key
abbrev pub HasOneOfEach : List Change → Type 0
HasOneOfEach items = (x y : Change) → IsIn x items → IsIn y items → x.key ≡ y.key → x ≡ y

-- which change enters: one of another key below 1000 changes and up to 32 MiB, an own one in place of its key's where neither is part of a durable write, and no received one in place of another
pub record FitsAs (items : List Change) (c : Change) : Type 0 where
  pub other : (own : Bool) → ((d : Change) → IsIn d items → d.key ≢ c.key) → (fits_in own items c ≡ true) ↔ ((length items < 1000) × (total_weight items + change_weight c ≤ 33554432))
  pub newer : (d : Change) → IsIn d items → d.key ≡ c.key → (fits_in true items c ≡ true) ↔ (IsPlain d.act × IsPlain c.act × (total_weight items + change_weight c ≤ 33554432 + change_weight d))
  pub received : (d : Change) → IsIn d items → d.key ≡ c.key → fits_in false items c ≡ false

-- among changes of different keys
abbrev pub FitsExactly : Type 0
FitsExactly = (items : List Change) (c : Change) → HasOneOfEach items → FitsAs items c

-- after a put the change is there, the only one of its key; those of other keys stay, and they rise
pub record PutsAs (items : List Change) (c : Change) : Type 0 where
  pub here : IsIn c (entered items c)
  pub only : (x : Change) → IsIn x (entered items c) → x.key ≡ c.key → x ≡ c
  pub others : (x : Change) → x.key ≢ c.key → IsIn x (entered items c) ↔ IsIn x items
  pub rises : (low high : ℕ) → Rises low high items → high < c.seq → Rises low c.seq (entered items c)

-- each put
abbrev pub PutsExactly : Type 0
PutsExactly = (items : List Change) (c : Change) → PutsAs items c

-- the changes above a place are those with a seqno above it
abbrev pub AboveExactly : Type 0
AboveExactly = (place : ℕ) (items : List Change) (x : Change) → IsIn x (items_above place items) ↔ (IsIn x items × (place < x.seq))

-- parts of durable writes, each of which fits and is above the changes before it
abbrev pub FitInTurn : Ckpt → List Change → Type 0
FitInTurn k [] = Unit {0}
FitInTurn k (c ∷ cs) = (is_durable c.act ≡ true) × (fits_in true k.items c ≡ true) × (ckpt_last k < c.seq) × FitInTurn (ckpt_with k c) cs

-- whoever takes parts of durable writes in and cuts back to the last seqno of before has what was there before
abbrev pub CutsTakeBack : Type 0
CutsTakeBack = (k : Ckpt) (cs : List Change) → Rises k.above (ckpt_last k) k.items → FitInTurn k cs → cut_to (ckpt_last k) (fold ckpt_with k cs) ≡ k

-- one of these entries has the change
abbrev pub HasEntry : Change → List (ℕ × Option Change) → Type 0
HasEntry c [] = ⊥
HasEntry c (e ∷ es) = (e.1 ≡ Some c) ⊎ HasEntry c es

-- of entries the changes are seen, in their order, and no hole between them; closed up they have no hole, and the same is seen
pub record SeenAs (es : List (ℕ × Option Change)) : Type 0 where
  pub seen : (c : Change) → IsIn c (changes_there es) ↔ HasEntry c es
  pub hole : (seq : ℕ) (fs : List (ℕ × Option Change)) → changes_there (es ++ (seq, None) ∷ fs) ≡ changes_there es ++ changes_there fs
  pub change : (seq : ℕ) (c : Change) (fs : List (ℕ × Option Change)) → changes_there (es ++ (seq, Some c) ∷ fs) ≡ changes_there es ++ c ∷ changes_there fs
  pub closed : changes_there (closed_up es) ≡ changes_there es
  pub full : length (closed_up es) ≡ length (changes_there es)

-- of all entries
abbrev pub SeenExactly : Type 0
SeenExactly = (es : List (ℕ × Option Change)) → SeenAs es

-- the one with a seqno is taken, and the others are left; to take it and to put another one behind goes in either order
pub record TakesAs (seq : ℕ) (cs : List Change) : Type 0 where
  pub taken : (c : Change) → (change_at seq cs ≡ Some c) ↔ (IsIn c cs × (c.seq ≡ seq))
  pub left : (c : Change) → IsIn c (lacking seq cs) ↔ (IsIn c cs × (c.seq ≢ seq))
  pub either : (c : Change) → c.seq ≢ seq → lacking seq (cs ++ c ∷ []) ≡ lacking seq cs ++ c ∷ []

-- from changes that rise
abbrev pub TakesExactly : Type 0
TakesExactly = (seq low high : ℕ) (cs : List Change) → Rises low high cs → TakesAs seq cs
