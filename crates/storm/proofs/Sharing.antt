-- seats that are cut, and taken in
use Rattle.std.proofs.Common.{◌≡◌, ℕ, zero, suc, ◌+◌, ◌-◌, ◌<◌, List, [], ◌∷◌, ◌++◌, length, map, get_or, set, take, refl, sym, ap, ◌∙◌, subst, arith}
use Rattle.std.specs.List.{AllByRecursion}
use Rattle.node_threads.specs.Seats.{Row}
use Rattle.storm.specs.Rows.{AllThree, AllTwo, HaveMore, Joins, MayJoin, given, gives}

-- the first so many of these seats gave one part away
abbrev pub given_to : ℕ → List Row → List Row
given_to zero rows = rows
given_to (suc n) [] = []
given_to (suc n) (r ∷ rs) = gives 1 r ∷ given_to n rs

pub given_more : (n : ℕ) (rows : List Row) (r : Row) → r ≡ get_or (given_to n rows) n r → n < length rows → set (given_to n rows) n (gives 1 r) ≡ given_to (suc n) rows
given_more zero [] r e l = absurd (omega arith)
given_more zero (x ∷ xs) r e l = ap (λ t. gives 1 t ∷ xs) e
given_more (suc n) [] r e l = absurd (omega arith)
given_more (suc n) (x ∷ xs) r e l = ap (λ t. gives 1 x ∷ t) (given_more n xs r e (omega arith))

pub given_all : (rows : List Row) → given_to (length rows) rows ≡ map (gives 1) rows
given_all [] = refl
given_all (r ∷ rs) = ap (λ t. gives 1 r ∷ t) (given_all rs)

pub given_length : (n : ℕ) (rows : List Row) → length (given_to n rows) ≡ length rows
given_length zero rows = refl
given_length (suc n) [] = refl
given_length (suc n) (r ∷ rs) = ap suc (given_length n rs)

pub own_more : (n : ℕ) (rows : List Row) (r : Row) → r ≡ get_or (given_to n rows) n r → n < length rows → map given (take n rows) ++ given r ∷ [] ≡ map given (take (suc n) rows)
own_more zero [] r e l = absurd (omega arith)
own_more zero (x ∷ xs) r e l = ap (λ t. given t ∷ []) e
own_more (suc n) [] r e l = absurd (omega arith)
own_more (suc n) (x ∷ xs) r e l = ap (λ t. given x ∷ t) (own_more n xs r e (omega arith))

pub own_all : (rows : List Row) → map given (take (length rows) rows) ≡ map given rows
own_all [] = refl
own_all (r ∷ rs) = ap (λ t. given r ∷ t) (own_all rs)

pub more_at : (m n : ℕ) (rows : List Row) (r : Row) → HaveMore m rows → r ≡ get_or (given_to n rows) n r → n < length rows → m < r.view.parts
more_at m zero [] r h e l = absurd (omega arith)
more_at m zero (x ∷ xs) r h e l = subst (λ (t : Row). m < t.view.parts) (sym e) h.0
more_at m (suc n) [] r h e l = absurd (omega arith)
more_at m (suc n) (x ∷ xs) r h e l = more_at m n xs r h.1 e (omega arith)

-- ---- for one client after the other

with_parts : Row → ℕ → Row
with_parts r p = record r { view = record { opening = r.view.opening; seen = r.view.seen; met = r.view.met; base = r.view.base; mine = r.view.mine; known = r.view.known; parts = p; turn = r.view.turn } }

gives_none : (r : Row) → gives 0 r ≡ r
unfolding with_parts
gives_none r = ap (with_parts r) (let e : r.view.parts - 0 ≡ r.view.parts = omega arith in e)

gives_next : (n : ℕ) (r : Row) → gives 1 (gives n r) ≡ gives (suc n) r
unfolding with_parts
gives_next n r = ap (with_parts r) (let e : r.view.parts - n - 1 ≡ r.view.parts - suc n = omega arith in e)

pub all_none : (rows : List Row) → map (gives 0) rows ≡ rows
all_none [] = refl
all_none (r ∷ rs) = (λ i. gives_none r i ∷ all_none rs i)

pub all_next : (n : ℕ) (rows : List Row) → map (gives 1) (map (gives n) rows) ≡ map (gives (suc n)) rows
all_next n [] = refl
all_next n (r ∷ rs) = (λ i. gives_next n r i ∷ all_next n rs i)

pub given_same : (n : ℕ) (rows : List Row) → map given (map (gives n) rows) ≡ map given rows
given_same n [] = refl
given_same n (r ∷ rs) = ap (λ t. given r ∷ t) (given_same n rs)

pub still_more : (n count : ℕ) (rows : List Row) → HaveMore count rows → n < count → HaveMore 1 (map (gives n) rows)
still_more n count [] h l = tt
still_more n count (r ∷ rs) h l = ((let a = h.0 in omega arith), still_more n count rs h.1 l)

-- ---- taken in, the last one first

-- those of the first seats wait, and all others took theirs in
abbrev pub Joining : List Row → List Row → List Row → List Row → Type 0
Joining [] xs us ws = AllThree Joins xs us ws
Joining (o ∷ own) (x ∷ xs) (u ∷ us) (w ∷ ws) = (w ≡ x) × (o ≡ u) × Joining own xs us ws
Joining (o ∷ own) xs us ws = ⊥

pub joining_none : (xs us : List Row) → MayJoin xs us → Joining us xs us xs
joining_none xs us m = by 0 xs us m
  where
    by : (n : ℕ) (xs us : List Row) → AllTwo (λ n x u. x.table ≡ u.table) n xs us → Joining us xs us xs
    by n [] [] m = tt
    by n [] (u ∷ us) m = absurd m
    by n (x ∷ xs) [] m = absurd m
    by n (x ∷ xs) (u ∷ us) m = (refl, refl, by (suc n) xs us m.1)

pub joining_place : (own xs us ws : List Row) (o : Row) → Joining (own ++ o ∷ []) xs us ws → length own < length ws
joining_place [] [] us ws o j = absurd j
joining_place [] (x ∷ xs) [] ws o j = absurd j
joining_place [] (x ∷ xs) (u ∷ us) [] o j = absurd j
joining_place [] (x ∷ xs) (u ∷ us) (w ∷ ws) o j = omega arith
joining_place (p ∷ own) [] us ws o j = absurd j
joining_place (p ∷ own) (x ∷ xs) [] ws o j = absurd j
joining_place (p ∷ own) (x ∷ xs) (u ∷ us) [] o j = absurd j
joining_place (p ∷ own) (x ∷ xs) (u ∷ us) (w ∷ ws) o j = let r = joining_place own xs us ws o j.2 in omega arith

-- the two next ones may be joined
pub joining_table : (n : ℕ) (own xs us ws : List Row) (o w : Row) → AllTwo (λ n x u. x.table ≡ u.table) n xs us → Joining (own ++ o ∷ []) xs us ws → w ≡ get_or ws (length own) w → w.table ≡ o.table
joining_table n [] [] us ws o w m j e = absurd j
joining_table n [] (x ∷ xs) [] ws o w m j e = absurd j
joining_table n [] (x ∷ xs) (u ∷ us) [] o w m j e = absurd j
joining_table n [] (x ∷ xs) (u ∷ us) (t ∷ ws) o w m j e = ap (λ (r : Row). r.table) (e ∙ j.0) ∙ m.0 ∙ ap (λ (r : Row). r.table) (sym j.1)
joining_table n (p ∷ own) [] us ws o w m j e = absurd j
joining_table n (p ∷ own) (x ∷ xs) [] ws o w m j e = absurd j
joining_table n (p ∷ own) (x ∷ xs) (u ∷ us) [] o w m j e = absurd j
joining_table n (p ∷ own) (x ∷ xs) (u ∷ us) (t ∷ ws) o w m j e = joining_table (suc n) own xs us ws o w m.1 j.2 e

pub joining_next : (own xs us ws : List Row) (o w z : Row) → Joining (own ++ o ∷ []) xs us ws → w ≡ get_or ws (length own) w → Joins w o z → Joining own xs us (set ws (length own) z)
joining_next [] [] us ws o w z j e p = absurd j
joining_next [] (x ∷ xs) [] ws o w z j e p = absurd j
joining_next [] (x ∷ xs) (u ∷ us) [] o w z j e p = absurd j
joining_next [] (x ∷ xs) (u ∷ us) (t ∷ ws) o w z j e p = (subst (λ (r : Row). Joins x r z) j.1 (subst (λ (r : Row). Joins r o z) (e ∙ j.0) p), j.2)
joining_next (q ∷ own) [] us ws o w z j e p = absurd j
joining_next (q ∷ own) (x ∷ xs) [] ws o w z j e p = absurd j
joining_next (q ∷ own) (x ∷ xs) (u ∷ us) [] o w z j e p = absurd j
joining_next (q ∷ own) (x ∷ xs) (u ∷ us) (t ∷ ws) o w z j e p = (j.0, j.1, joining_next own xs us ws o w z j.2 e p)
