-- what puts do, one after the other
use Rattle.std.proofs.Common.{◌≡◌, ℕ, ◌≤◌, List, [], ◌++◌, take, drop, refl, sym, ap, ◌∙◌, append_assoc, append-nil, arith}
use Rattle.std.specs.Prelude.{Option}
use Rattle.std.specs.Io.KnownBytes.{Keeps, Appends}
use Rattle.std.proofs.KnownBytes.{Appends-nil, Appends-trans, Appends-kept}
use Rattle.std.proofs.lemmas.List.{take-append-drop}
use Rattle.dcp_io.specs.Counts.{raised, Rose}
use Rattle.dcp_io.specs.Moves.{Outlet, Puts, WrotePart}
use Rattle.dcp_io.specs.declared.Put.{Put}
use Rattle.dcp_io.specs.declared.Put.TheVariants as put
use Rattle.dcp_io.proofs.Counted.{raised_kept, rose_by_one}

-- nothing is a part of each text
pub part_none : (held now : Option (List ℕ)) (text : List ℕ) → Keeps held now → WrotePart held now text
part_none held now text k = record { part = []; more = text; appended = Appends-kept held held now [] (Appends-nil held) k; front = refl }

-- all of a text is a part of it
pub part_all : (held now : Option (List ℕ)) (text : List ℕ) → Appends held now text → WrotePart held now text
part_all held now text a = record { part = text; more = []; appended = a; front = append-nil text }

-- whatever a put answers, it wrote a part
pub part_of_put : {old new : Outlet} {text : List ℕ} (answer : Put) → Puts old new text answer → WrotePart old.held new.held text
part_of_put {old} {new} {text} put.Done p = part_all old.held new.held text p.got.0
part_of_put {old} {new} {text} put.NoMemory p = part_none old.held new.held text p.got.1
part_of_put {old} {new} {text} put.Failed p =
    record { part = take p.got.0.0 text; more = drop p.got.0.0 text; appended = p.got.0.1; front = take-append-drop p.got.0.0 text }

-- a part of what comes next, behind what stands, is a part of the whole
pub part_after : (a b c : Option (List ℕ)) (done next rest text : List ℕ) → Appends a b done → done ++ (next ++ rest) ≡ text → WrotePart b c next → WrotePart a c text
part_after a b c done next rest text p e w = record {
  part = done ++ w.part;
  more = w.more ++ rest;
  appended = Appends-trans a b c done w.part p w.appended;
  front = append_assoc done w.part (w.more ++ rest) ∙ ap (λ zs. done ++ zs) (sym (append_assoc w.part w.more rest) ∙ ap (λ zs. zs ++ rest) w.front) ∙ e;
}

-- a put that failed was counted
pub put_rose : {old new : Outlet} {bytes : List ℕ} → Puts old new bytes put.Failed → Rose old.faults new.faults
put_rose {old} {new} p = rose_by_one old.faults new.faults p.got.1

-- no put makes the count of faults fall
pub put_kept : {old new : Outlet} {bytes : List ℕ} (answer : Put) → Puts old new bytes answer → old.faults ≤ new.faults
put_kept {old} {new} put.Done p = let e : new.faults ≡ old.faults = p.got.1 in omega arith
put_kept {old} {new} put.NoMemory p = let e : new.faults ≡ old.faults = p.got.2 in omega arith
put_kept {old} {new} put.Failed p = let e : new.faults ≡ raised old.faults 1 = p.got.1 in omega (arith, raised_kept old.faults 1)
