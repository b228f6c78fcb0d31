-- writing group by group
use Rattle.std.proofs.Common.{◌≡◌, ℕ, ◌+◌, ◌<◌, suc, List, ◌∷◌, ◌++◌, length, get_or, drop, ap, sym, ◌∙◌, add-one}
use Rattle.std.proofs.Math.Seq.{drop-cons}
use Rattle.script_text.specs.Transcript.{group_text, print_of}
use Rattle.vb_events.specs.declared.event.Group.{Group}

-- the group at a place is printed first
pub print_at : (groups : List Group) (n : ℕ) (group : Group) → n < length groups → group ≡ get_or groups n group
    → print_of (drop n groups) ≡ group_text group ++ print_of (drop (n + 1) groups)
print_at groups n group lt is = ap print_of (drop-cons groups n group lt)
    ∙ ap (λ g. print_of (g ∷ drop (suc n) groups)) (sym is)
    ∙ ap (λ m. group_text group ++ print_of (drop m groups)) (sym (add-one n))
