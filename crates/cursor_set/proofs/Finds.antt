-- a map from numbers by its entries: what it has at a number, and what a change at one number makes of it
use Rattle.std.proofs.Common.{◌≡◌, ℕ, ◌≤◌, eqb, eqb-true, All, List, [], ◌∷◌, length, refl, ap, sym, ◌∙◌, cond, Bool, true, false, subst}
use Rattle.std.specs.Prelude.{Some, None, ◌&&◌, T, map}
use Rattle.std.specs.Map.{lookup, keys_of, values_of}
use Rattle.std.specs.BTreeMap.{is_at}
use Rattle.std.specs.Cmp.{Equal-is, eq_by_cmp_equiv, nat_cmp_total}
use Rattle.std.specs.declared.cmp.Ordering.TheVariants.{Less}
use Rattle.std.specs.Ordering.{eq_by_cmp, is_lt, nat_cmp}
use Rattle.std.specs.List.{AllByRecursion, Contains, filter}
use Rattle.std.specs.List.Sorted.{IsStrictlySortedBy}
use Rattle.std.specs.FinMap.{empty, from_entries, get, get-empty, insert, remove, len, find, entries_sorted, get-entries, get-from_entries, get-insert, get-remove, len-entries, same_map, nat_cmp-IsAntisymmetric}
use Rattle.std.specs.FinMap.Entries.{is_sorted, below_all, same_entries}
use Rattle.std.proofs.lemmas.List.Elements.{All-contains}
use Rattle.std.proofs.lemmas.Map.Entries.{lookup-filter-keys}
use Rattle.std.proofs.lemmas.Map.Keys.{IsDistinct-from_sorted}
use Rattle.std.proofs.lemmas.Map.Made.{Contains-values_of, Contains-from_values_of}
use Rattle.std.proofs.lemmas.Map.Views.{Contains-from_lookup, lookup-from_Contains}
use Rattle.cursor_set.specs.Cursors.{IsLeast}

both : (a b : Bool) → T a → T b → T (a && b)
both true b p q = q
both false b p q = p

module _ {X : Type 0} where
  find-lookup : (es : List (ℕ × X)) (q : ℕ) → find nat_cmp q es ≡ lookup (is_at (nat_cmp q)) es
  find-lookup [] q = refl
  find-lookup (e ∷ es) q = ap (cond (is_at (nat_cmp q) e.0) (Some e.1)) (find-lookup es q)

  -- what the map of these entries has
  pub get_at : (es : List (ℕ × X)) (q : ℕ) → get (from_entries {R = nat_cmp} es) q ≡ lookup (is_at (nat_cmp q)) es
  get_at es q = get-from_entries nat_cmp_total es q ∙ find-lookup es q

  -- entries that differ at one number make maps that differ there
  pub inserted : (es fs : List (ℕ × X)) (k : ℕ) (v : X) → ((q : ℕ) → lookup (is_at (nat_cmp q)) fs ≡ cond (is_at (nat_cmp k) q) (Some v) (lookup (is_at (nat_cmp q)) es)) → from_entries {R = nat_cmp} fs ≡ insert (from_entries es) k v
  inserted es fs k v h = same_map nat_cmp_total nat_cmp-IsAntisymmetric _ _ (λ q.
      get_at fs q ∙ h q ∙ ap (λ b. cond b (Some v) (lookup (is_at (nat_cmp q)) es)) ((eq_by_cmp_equiv nat_cmp_total).symm k q)
      ∙ sym (get-insert nat_cmp_total (from_entries es) k v q ∙ ap (cond (is_at (nat_cmp q) k) (Some v)) (get_at es q)))

  pub removed : (es fs : List (ℕ × X)) (k : ℕ) → ((q : ℕ) → lookup (is_at (nat_cmp q)) fs ≡ cond (is_at (nat_cmp k) q) None (lookup (is_at (nat_cmp q)) es)) → from_entries {R = nat_cmp} fs ≡ remove (from_entries es) k
  removed es fs k h = same_map nat_cmp_total nat_cmp-IsAntisymmetric _ _ (λ q.
      get_at fs q ∙ h q ∙ ap (λ b. cond b None (lookup (is_at (nat_cmp q)) es)) ((eq_by_cmp_equiv nat_cmp_total).symm k q)
      ∙ sym (get-remove nat_cmp_total (from_entries es) k q ∙ ap (cond (is_at (nat_cmp q) k) None) (get_at es q)))

  below : (k : ℕ) (es : List (ℕ × X)) → AllByRecursion (λ y. nat_cmp k y ≡ Less) (map (λ e. e.0) es) → T (below_all nat_cmp k es)
  below k [] h = tt
  below k (e ∷ es) h = both _ _ (subst (λ r. T (is_lt r)) (sym h.0) tt) (below k es h.1)

  sorted : (es : List (ℕ × X)) → IsStrictlySortedBy nat_cmp (map (λ e. e.0) es) → T (is_sorted nat_cmp es)
  unfolding IsStrictlySortedBy
  sorted [] h = tt
  sorted (e ∷ es) h = both _ _ (below e.0 es h.0) (sorted es h.1)

  -- entries in the order of their numbers are as many as those of the map that they make
  pub len_at : (es : List (ℕ × X)) → IsStrictlySortedBy nat_cmp (map (λ e. e.0) es) → len (from_entries {R = nat_cmp} es) ≡ length es
  len_at es h = len-entries _ ∙ ap length (same_entries nat_cmp nat_cmp_total nat_cmp-IsAntisymmetric _ _ (entries_sorted (from_entries es)) (sorted es h)
      (λ q. sym (get-entries (from_entries es) q) ∙ get-from_entries nat_cmp_total es q))

pub same : (x y : ℕ) → eq_by_cmp nat_cmp x y ≡ true → x ≡ y
same x y e = nat_cmp-IsAntisymmetric x y ((Equal-is (nat_cmp x y)).0 e)

-- a value that none is below is the least place
pub least_at : (es : List (ℕ × ℕ)) (n : ℕ) → IsStrictlySortedBy nat_cmp (keys_of es) → Contains (values_of es) n → All (λ place. n ≤ place) (values_of es) → IsLeast (from_entries es) n
least_at es n ordered there least =
    let at = Contains-from_values_of es n there in
    record {
      there = (at.0, get_at es at.0 ∙ lookup-from_Contains (eq_by_cmp_equiv nat_cmp_total) at.0 n es (IsDistinct-from_sorted nat_cmp (keys_of es) ordered) at.1);
      least = λ id place e. All-contains (λ p. n ≤ p) (values_of es) place least (Contains-values_of es id place (Contains-from_lookup same id place es (sym (get_at es id) ∙ e)));
    }

-- what is at a number that only entries of the number 0 are kept of
kept_at : (es fs : List (ℕ × ℕ)) (q : ℕ) → fs ≡ filter (λ e. eqb e.0 0) es → get (from_entries {R = nat_cmp} fs) q ≡ cond (eqb q 0) (get (from_entries {R = nat_cmp} es) q) None
kept_at es fs q e = get_at fs q ∙ ap (lookup (is_at (nat_cmp q))) e
    ∙ lookup-filter-keys (is_at (nat_cmp q)) (λ k. eqb k 0) (eqb q 0) (λ k t. ap (λ x. eqb x 0) (sym (same q k t))) es
    ∙ ap (λ o. cond (eqb q 0) o None) (sym (get_at es q))

pub kept_zero : (es fs : List (ℕ × ℕ)) → fs ≡ filter (λ e. eqb e.0 0) es → get (from_entries {R = nat_cmp} fs) 0 ≡ get (from_entries {R = nat_cmp} es) 0
kept_zero es fs e = kept_at es fs 0 e

alone_at : (es fs : List (ℕ × ℕ)) (place q : ℕ) (b : Bool) → fs ≡ filter (λ e. eqb e.0 0) es → eqb q 0 ≡ b → cond (eq_by_cmp nat_cmp q 0) (Some place) (get (from_entries {R = nat_cmp} fs) q) ≡ cond (eq_by_cmp nat_cmp q 0) (Some place) None
alone_at es fs place q true e t = ap (λ x. cond (eq_by_cmp nat_cmp x 0) (Some place) (get (from_entries {R = nat_cmp} fs) x)) (eqb-true q 0 t) ∙ sym (ap (λ x. cond (eq_by_cmp nat_cmp x 0) (Some place) None) (eqb-true q 0 t))
alone_at es fs place q false e t = ap (cond (eq_by_cmp nat_cmp q 0) (Some place)) (kept_at es fs q e ∙ ap (λ b. cond b (get (from_entries {R = nat_cmp} es) q) None) t)

-- the number 0 alone, where only its entry is kept
pub alone : (es fs : List (ℕ × ℕ)) (place : ℕ) → fs ≡ filter (λ e. eqb e.0 0) es → insert (from_entries {R = nat_cmp} fs) 0 place ≡ insert empty 0 place
alone es fs place e = same_map nat_cmp_total nat_cmp-IsAntisymmetric _ _ (λ q.
    get-insert nat_cmp_total (from_entries fs) 0 place q ∙ alone_at es fs place q (eqb q 0) e refl
    ∙ sym (get-insert nat_cmp_total empty 0 place q ∙ ap (cond (eq_by_cmp nat_cmp q 0) (Some place)) (get-empty nat_cmp q)))
