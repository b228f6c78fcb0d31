-- tables as they are seen: what they hold, and for how many more keys they have room
use Rattle.std.specs.Prelude.{ℕ, List, [], ◌∷◌, ◌++◌, nat_le, nat_lt, refl}
use Rattle.std.specs.FinMap as map
use Rattle.std.specs.Coded.{Coded, code_by, coded×, coded_list, coded_ℕ}
use Rattle.std.specs.List.{filter, fold}
use Rattle.vb_types.specs.declared.change.Pend.{Pend}
use Rattle.vb_types.specs.Images.{Picture, picture_code}
use Rattle.vb_types.specs.Keys.{key_cmp}

-- what is at each key
pub record Filled (X : Type 0) : Type 0 where
  pub map : map.FinMap key_cmp X
  pub room : ℕ

abbrev pub filled_code : {X : Type 0} → Coded X → Coded (Filled X)
filled_code {X} x = code_by (map.FinMap key_cmp X × ℕ) (coded× (map.code (coded_list coded_ℕ) x) coded_ℕ) (λ t. (t.map, t.room)) (λ p. record { map = p.0; room = p.1 }) (λ _. refl)

-- the documents and what is pending
pub record Table : Type 0 where
  pub image : Picture
  pub room : ℕ

abbrev pub table_code : Coded Table
table_code = code_by (Picture × ℕ) (coded× picture_code coded_ℕ) (λ t. (t.image, t.room)) (λ p. record { image = p.0; room = p.1 }) (λ _. refl)

-- a map with these entries, the first of a key on top
abbrev pub put_all : {X : Type 0} → map.FinMap key_cmp X → List (List ℕ × X) → map.FinMap key_cmp X
put_all m [] = m
put_all m (e ∷ es) = map.insert (put_all m es) e.0 e.1

-- an entry stands behind all whose seqno is not above its own, and before the others
abbrev pub placed : List (List ℕ × Pend) → List ℕ × Pend → List (List ℕ × Pend)
placed es e = filter (λ d. nat_le d.1.seq e.1.seq) es ++ e ∷ filter (λ d. nat_lt e.1.seq d.1.seq) es

-- the entries by rising seqnos, of equal ones the smaller key first: each placed in turn, in the order of keys
abbrev pub by_seqnos : map.FinMap key_cmp Pend → List (List ℕ × Pend)
by_seqnos pending = fold placed [] (map.entries pending)
