-- the laws of cursors
use Rattle.std.proofs.Common.{◌≡◌, ◌≢◌, ℕ, Bool, true, false, cond, refl, ap, sym, ◌∙◌, arith}
use Rattle.std.specs.Prelude.{Some, None, max, nat_le, is_some, if◌then◌else◌}
use Rattle.std.specs.FinMap as map
use Rattle.std.specs.FinMap.{get-insert, get-remove}
use Rattle.std.specs.Cmp.{nat_cmp_total, nat_cmp_is}
use Rattle.std.specs.Ordering.{eq_by_cmp, is_eq, nat_cmp}
use Rattle.std.specs.declared.cmp.Ordering.TheVariants.{Equal}
use Rattle.std.proofs.lemmas.Bool.Decides.{nat_tests}
use Rattle.cursor_set.specs.Cursors.{Places, place_of, may_advance}
use Rattle.cursor_set.specs.Laws.{CursorsApart, CursorsMove}
use Rattle.cursor_set.proofs.Finds.{same}

at_itself : (n : ℕ) → eq_by_cmp nat_cmp n n ≡ true
at_itself n = ap is_eq (sym (nat_cmp_is n n Equal refl))

at_another : (m n : ℕ) → m ≢ n → eq_by_cmp nat_cmp m n ≡ false
at_another m n h = elim (eq_by_cmp nat_cmp m n) as (λ v. eq_by_cmp nat_cmp m n ≡ v → v ≡ false) [ true ↦ λ e. absurd (h (same m n e)) | false ↦ λ e. refl ] refl

pub inserted_here : (m : Places) (id n : ℕ) → place_of (map.insert m id n) id ≡ Some n
inserted_here m id n = get-insert nat_cmp_total m id n id ∙ ap (λ b. cond b (Some n) (map.get m id)) (at_itself id)

inserted_there : (m : Places) (id n other : ℕ) → other ≢ id → place_of (map.insert m id n) other ≡ place_of m other
inserted_there m id n other h = get-insert nat_cmp_total m id n other ∙ ap (λ b. cond b (Some n) (map.get m other)) (at_another other id h)

pub removed_here : (m : Places) (id : ℕ) → place_of (map.remove m id) id ≡ None
removed_here m id = get-remove nat_cmp_total m id id ∙ ap (λ b. cond b None (map.get m id)) (at_itself id)

-- a place that is set by a test, or not
set_there : (m : Places) (id n other : ℕ) (b : Bool) → other ≢ id → place_of (if b then map.insert m id n else m) other ≡ place_of m other
set_there m id n other true h = inserted_there m id n other h
set_there m id n other false h = refl

set_not : (m : Places) (id n other : ℕ) (b : Bool) → other ≢ id → place_of (if b then m else map.insert m id n) other ≡ place_of m other
set_not m id n other true h = refl
set_not m id n other false h = inserted_there m id n other h

pub cursors_apart : CursorsApart
cursors_apart m id other h = record {
  registered = λ place. set_not m id place other (is_some (place_of m id)) h;
  advanced = λ to. set_there m id to other (may_advance (place_of m id) to) h;
  put = λ at. inserted_there m id at other h;
  removed = get-remove nat_cmp_total m id other ∙ ap (λ b. cond b None (map.get m other)) (at_another other id h);
}

-- on to the greater of two
gone_on : (m : Places) (id place to : ℕ) (b : Bool) → place_of m id ≡ Some place → nat_le place to ≡ b → place_of (if b then map.insert m id to else m) id ≡ Some (max place to)
gone_on m id place to true e t = inserted_here m id to ∙ ap Some (grind (arith, nat_tests))
gone_on m id place to false e t = e ∙ ap Some (grind (arith, nat_tests))

pub cursors_move : CursorsMove
cursors_move = record {
  there = λ m id place e. record {
    registered = λ at. ap (λ o. place_of (if is_some o then m else map.insert m id at) id) e ∙ e;
    advanced = λ to. ap (λ o. place_of (if may_advance o to then map.insert m id to else m) id) e ∙ gone_on m id place to (nat_le place to) e refl;
    put = λ at. inserted_here m id at;
    removed = removed_here m id;
  };
  absent = λ m id e. record {
    registered = λ at. ap (λ o. place_of (if is_some o then m else map.insert m id at) id) e ∙ inserted_here m id at;
    advanced = λ to. ap (λ o. place_of (if may_advance o to then map.insert m id to else m) id) e ∙ e;
    put = λ at. inserted_here m id at;
  };
}
