-- lines that come after others
use Rattle.std.specs.Prelude.{◌≡◌, ◌∷◌, ◌++◌}
use Rattle.transcript_law.proofs.Words.{ℕ, false, List, [], refl, ap, sym, subst, append_assoc, append-nil, Option, Event, Chronicle, after_branch, after_line, after_lines, LawfulLine, LawfulFrom}
use Rattle.transcript_law.specs.LinesTold.{roles_from}

-- lines that are lawful whatever lawful lines come behind them
abbrev pub LawfulBefore : Chronicle → List Event → Type 0
LawfulBefore r lines = (more : List Event) → LawfulFrom (after_lines r lines) more → LawfulFrom r (lines ++ more)

pub told_more : (r : Chronicle) (lines more : List Event) → after_lines r (lines ++ more) ≡ after_lines (after_lines r lines) more
told_more r [] more = refl
told_more r (line ∷ lines) more = told_more (after_line r line) lines more

pub none_before : (r : Chronicle) → LawfulBefore r []
none_before r more lawful = lawful

-- one line more
pub one_before : (r : Chronicle) (lines : List Event) (line : Event) → LawfulBefore r lines → ((behind : List Event) → LawfulLine (after_lines r lines) line behind) → LawfulBefore r (lines ++ line ∷ [])
one_before r lines line before lawful more rest =
    subst (LawfulFrom r) (sym (append_assoc lines (line ∷ []) more))
    (before (line ∷ more) (lawful more, subst (λ c. LawfulFrom c more) (told_more r lines (line ∷ [])) rest))

-- more lines
pub before_more : (r : Chronicle) (lines more : List Event) → LawfulBefore r lines → LawfulBefore (after_lines r lines) more → LawfulBefore r (lines ++ more)
before_more r lines more before later last rest =
    subst (LawfulFrom r) (sym (append_assoc lines more last)) (before (more ++ last) (later last (subst (λ c. LawfulFrom c last) (told_more r lines more) rest)))

-- lines that are lawful wherever they stand, and of which nothing is read
abbrev pub TellNothing : List Event → Type 0
TellNothing lines = (r : Chronicle) → LawfulBefore r lines × (after_lines r lines ≡ r)

pub before_all : (r : Chronicle) (lines : List Event) → LawfulBefore r lines → LawfulFrom r lines
before_all r lines before = subst (LawfulFrom r) (append-nil lines) (before [] tt)

-- a branch of a node that is not told down is read as it is
pub branch_line : (r : Chronicle) (n v uuid : ℕ) (parent : Option ℕ) (fork high : ℕ) → (r.arm_at n).down ≡ false → after_line r (Event.Branch n v uuid parent fork high) ≡ after_branch r n v uuid parent fork high
branch_line r n v uuid parent fork high e = ap (λ b. record (after_branch r n v uuid parent fork high) { role_at = roles_from b r.role_at n v }) e
