-- changes by rising seqno, of which some were taken away
use Rattle.std.specs.Prelude.{◌≡◌, ◌≢◌, ℕ, ◌+◌, ◌-◌, ◌<◌, ◌≤◌, ◌==◌, nat_lt, Bool, false, not, List, [], ◌∷◌, length, slice_get, slice_index_or, Option, None, Some, IfSome, is_none, is_some}
use Rattle.std.specs.List.{filter, filter_map, find}
use Rattle.vb_types.specs.declared.change.Change.{Change}

-- the changes that are there: an entry is a seqno with its change, or with none, as a hole
abbrev pub changes_there : List (ℕ × Option Change) → List Change
changes_there es = filter_map (λ e. e.1) es

-- the entries that are no holes
abbrev pub closed_up : List (ℕ × Option Change) → List (ℕ × Option Change)
closed_up es = filter (λ e. is_some e.1) es

-- seqnos rise from one on, and each change that is there has its own
abbrev pub AreEntries : ℕ → List (ℕ × Option Change) → Type 0
AreEntries n [] = Unit {0}
AreEntries n (e ∷ es) = (n ≤ e.0) × IfSome e.1 (λ c. c.seq ≡ e.0) × AreEntries (e.0 + 1) es

-- so many changes are there, and no more holes
pub record IsRun (there : ℕ) (es : List (ℕ × Option Change)) : Type 0 where
  pub entries : AreEntries 0 es
  pub counted : there ≡ length (changes_there es)
  pub dense : length es ≤ there + there

-- the entry at this place has the seqno
pub record IsAt (seq at : ℕ) (es : List (ℕ × Option Change)) : Type 0 where
  pub inside : at < length es
  pub here : (slice_index_or es at (0, None)).0 ≡ seq

-- no entry has the seqno
abbrev pub Lacks : ℕ → List (ℕ × Option Change) → Type 0
Lacks seq [] = Unit {0}
Lacks seq (e ∷ es) = (e.0 ≢ seq) × Lacks seq es

-- the last entry
abbrev pub last_entry : List (ℕ × Option Change) → Option (ℕ × Option Change)
last_entry es = slice_get es (length es - 1)

-- there is an entry, and it is a hole
abbrev pub is_hole : Option (ℕ × Option Change) → Bool
is_hole None = false
is_hole (Some e) = is_none e.1

-- there is an entry, and its seqno is above one
abbrev pub is_above : ℕ → Option (ℕ × Option Change) → Bool
is_above n None = false
is_above n (Some e) = nat_lt n e.0

-- each change is below a seqno
abbrev pub AreBelow : ℕ → List Change → Type 0
AreBelow n [] = Unit {0}
AreBelow n (c ∷ cs) = (c.seq < n) × AreBelow n cs

-- the change with a seqno
abbrev pub change_at : ℕ → List Change → Option Change
change_at seq cs = find (λ c. c.seq == seq) cs

-- the changes but the one with a seqno
abbrev pub lacking : ℕ → List Change → List Change
lacking seq cs = filter (λ c. not (c.seq == seq)) cs
