-- writing group by group
use Rattle.std.proofs.Common.{◌≡◌, ℕ, ◌<◌, Bool, true, false, List, [], ◌∷◌, ◌++◌, length, Result, Ok, Err, refl, ap, sym, ◌∙◌, subst, append-nil, append_assoc, arith}
use Rattle.std.proofs.lemmas.List.Elements.{All-cons}
use Rattle.std.specs.List.{All}
use Rattle.std.specs.Prelude.{IfOk}
use Rattle.std.specs.Result.{IsErrAnd}
use Rattle.std.specs.Io.KnownBytes.{Appends}
use Rattle.std.proofs.KnownBytes.{Appends-nil, Appends-trans}
use Rattle.dcp_io.specs.Moves.{Outlet}
use Rattle.dcp_io.specs.Writes.{Stopped, Wrote, WroteAll}
use Rattle.dcp_io.specs.declared.status.Status.{Status}
use Rattle.dcp_io.proofs.Stopping.{stopped_after}
use Rattle.node_world.specs.World.{PlainWorld, world_step, groups_from}
use Rattle.node_world.specs.Rests.{Rests}
use Rattle.node_world.specs.Stands.{Kept, WorldStands}
use Rattle.script_text.specs.Held.{IsGroupHeld}
use Rattle.script_text.specs.Transcript.{group_text, print_of}
use Rattle.script_text.specs.declared.verb.ScriptLine.{ScriptLine}
use Rattle.dcp_main.specs.Writes.{to_write, IsLess, LineTold, LineWrote, PieceWrote, WroteBut}

-- what came of the rest of a text, behind what was written
pub wrote_rest : (a b c : Outlet) (done rest text : List ℕ) (r : Result (Unit {0}) Status) → b.faults ≡ a.faults → Appends a.held b.held done → done ++ rest ≡ text → Wrote b c rest r → Wrote a c text r
wrote_rest a b c done rest text (Ok u) same appended is wrote =
    (subst (λ t. Appends a.held c.held t) is (Appends-trans a.held b.held c.held done rest appended wrote.0), wrote.1 ∙ same)
wrote_rest a b c done rest text (Err stop) same appended is wrote =
    stopped_after a b c done rest [] text stop same appended (ap (λ t. done ++ t) (append-nil rest) ∙ is) wrote

-- a stop in a front part of a text is one in the text
pub stopped_front : (a b : Outlet) (front rest text : List ℕ) (stop : Status) → front ++ rest ≡ text → Stopped a b front stop → Stopped a b text stop
stopped_front a b front rest text stop is stopped = stopped_after a a b [] front rest text stop refl (Appends-nil a.held) is stopped

-- the text of the first line's group waits
told_next : (w : PlainWorld) (lines left : List ScriptLine) (line : ScriptLine) (waited waits : List ℕ) → lines ≡ line ∷ left → waits ≡ waited ++ group_text (world_step w line).1
    → to_write waits (world_step w line).0 left ≡ to_write waited w lines
told_next w lines left line waited waits first told =
    ap (λ t. t ++ print_of (groups_from (world_step w line).0 left)) told
    ∙ append_assoc waited (group_text (world_step w line).1) (print_of (groups_from (world_step w line).0 left))
    ∙ sym (ap (λ ls. waited ++ print_of (groups_from w ls)) first)

-- and then it is written, as much as is
pub told_wrote : (w : PlainWorld) (lines left : List ScriptLine) (before kept : Kept) (waited told waits : List ℕ) (old new : Outlet) (more : Bool) → WorldStands before w → Rests w
    → LineTold w lines left before kept waited told more → WroteBut old new told waits → LineWrote w lines left kept waited waits old new (Ok more)
told_wrote w lines left before kept waited told waits old new true stands rests line (part, wrote, is) =
    let next = told_next w lines left line.0 waited told line.1 line.4 in
    let after = (world_step w line.0).0 in (
      after,
      line.2,
      line.3,
      omega (arith, ap length line.1),
      λ held. subst (λ ls. All IsGroupHeld (groups_from w ls)) (sym line.1) (All-cons IsGroupHeld (world_step w line.0).1 (groups_from after left) line.5 held),
      (part, wrote, sym (append_assoc part waits (print_of (groups_from after left))) ∙ ap (λ t. t ++ print_of (groups_from after left)) is ∙ next),
    )
told_wrote w lines left before kept waited told waits old new false stands rests none (part, wrote, is) = (
  w,
  subst (λ k. WorldStands k w) (sym none.2) stands,
  rests,
  none.1,
  λ held. subst (λ ls. All IsGroupHeld (groups_from w ls)) (none.1 ∙ sym none.0) held,
  (
    part,
    wrote,
    sym (append_assoc part waits (print_of (groups_from w left))) ∙ ap (λ t. t ++ print_of (groups_from w left)) (is ∙ none.3) ∙ ap (λ ls. to_write waited w ls) (none.1 ∙ sym none.0),
  ),
)

pub told_stopped : (w : PlainWorld) (lines left : List ScriptLine) (before kept : Kept) (waited told : List ℕ) (old new : Outlet) (more : Bool) (stop : Status)
    → LineTold w lines left before kept waited told more → Stopped old new told stop → Stopped old new (to_write waited w lines) stop
told_stopped w lines left before kept waited told old new true stop line stopped =
    stopped_front old new told _ _ stop (told_next w lines left line.0 waited told line.1 line.4) stopped
told_stopped w lines left before kept waited told old new false stop none stopped =
    stopped_front old new told (print_of (groups_from w lines)) _ stop (ap (λ t. t ++ print_of (groups_from w lines)) none.3) stopped

-- a stop that was passed on is the stop that came
pub line_stop : (w : PlainWorld) (lines left : List ScriptLine) (kept : Kept) (waited waits : List ℕ) (old new : Outlet) (r : Result Bool Status) (stop : Status)
    → IsErrAnd r (λ passed. passed ≡ stop) → Stopped old new (to_write waited w lines) stop → LineWrote w lines left kept waited waits old new r
line_stop w lines left kept waited waits old new (Ok more) stop passed stopped = absurd passed
line_stop w lines left kept waited waits old new (Err why) stop passed stopped = subst (λ s. Stopped old new (to_write waited w lines) s) (sym passed) stopped

-- what holds anyway holds at an Ok, and anything does of a stop
pub if_ok : {P : Type 0} (r : Result (Unit {0}) Status) → P → IfOk r (λ u. P)
if_ok (Ok u) p = p
if_ok (Err stop) p = tt

pub never_ok : (P : Type 0) (r : Result (Unit {0}) Status) (stop : Status) → IsErrAnd r (λ passed. passed ≡ stop) → IfOk r (λ u. P)
never_ok P (Ok u) stop passed = absurd passed
never_ok P (Err why) stop passed = tt
