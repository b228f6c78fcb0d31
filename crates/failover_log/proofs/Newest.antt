-- the newest entry that passes a test, by two ways
use Rattle.std.proofs.Common.{◌≡◌, Bool, true, false, List, [], ◌∷◌, Some, refl, cond}
use Rattle.std.specs.List.{find, filter}
use Rattle.vb_types.specs.declared.role.LogEntry.{LogEntry}
use Rattle.branch_model.specs.Logs.{front}

newest_by : (t : Bool) (test : LogEntry → Bool) (e : LogEntry) (older : List LogEntry) → find test older ≡ front (filter test older)
    → cond t (Some e) (find test older) ≡ front (cond t (e ∷ filter test older) (filter test older))
newest_by true test e older h = refl
newest_by false test e older h = h

pub newest : (test : LogEntry → Bool) (log : List LogEntry) → find test log ≡ front (filter test log)
newest test [] = refl
newest test (e ∷ older) = newest_by (test e) test e older (newest test older)
