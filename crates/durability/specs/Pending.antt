-- what a replica has to acknowledge, by its pending prepares
use Rattle.std.specs.Prelude.{ℕ, nat_le, nat_lt, ◌&&◌, not, Bool, true, max, List, [], ◌∷◌, Option, Some, None}
use Rattle.std.specs.List.{filter}
use Rattle.vb_types.specs.Levels.{is_third}
use Rattle.vb_types.specs.declared.change.Pend.{Pend}

-- a pending level 3 prepare up to q that is not saved
abbrev pub is_bar : ℕ → ℕ → Pend → Bool
is_bar saved q e = is_third e.level && nat_le e.seq q && nat_lt saved e.seq

-- none of the list passes
abbrev pub has_none : (Pend → Bool) → List Pend → Bool
has_none test [] = true
has_none test (e ∷ more) = not (test e) && has_none test more

-- a replica may acknowledge this pending prepare: it has all up to it, and each level 3 one up to it saved
abbrev pub may_ack : List Pend → ℕ → ℕ → Pend → Bool
may_ack pending complete saved e = nat_le e.seq complete && has_none (is_bar saved e.seq) pending

-- the greatest seqno, or 0
abbrev pub greatest : List Pend → ℕ
greatest [] = 0
greatest (e ∷ more) = max e.seq (greatest more)

-- the number that a replica has to acknowledge, or 0
abbrev pub due : List Pend → ℕ → ℕ → ℕ
due pending complete saved = greatest (filter (may_ack pending complete saved) pending)

-- a number that is below the lowest bar, if there is one
abbrev pub is_under : Option ℕ → ℕ → Bool
is_under None q = true
is_under (Some bar) q = nat_lt q bar
