-- a seat's row as a tuple of what it has
use Rattle.std.specs.Prelude.{ℕ, Bool, List, Option, refl}
use Rattle.std.specs.Coded.{Coded, code_by, coded×, coded_list, coded_option, coded_ℕ, coded_bool}
use Rattle.atomic_table.specs.Seated.{TableId, table_id_coded}
use Rattle.vb_calls.specs.declared.calls.VbCall.{VbCall}
use Rattle.vb_calls.specs.declared.calls.VbReply.{VbReply}
use Rattle.vb_calls.specs.contracts.calls.VbCall as call_row
use Rattle.vb_calls.specs.contracts.calls.VbReply as reply_row
use Rattle.vbucket.specs.Kept.{Kept}
use Rattle.vbucket.specs.Codes.{kept_code}
use Rattle.node_threads.specs.Seats.{VbView, Row}

abbrev Entry : Type 0
Entry = VbCall × VbReply

abbrev entry_code : Coded Entry
entry_code = coded× call_row.the_row.coded reply_row.the_row.coded

-- what was seen, met and gone on from
abbrev Lists : Type 0
Lists = Option Kept × (List Entry × (List Entry × List Entry))

-- the seat's own calls, what it knows, its parts, and whether it has the turn
abbrev Own : Type 0
Own = List (ℕ × Entry) × ((ℕ × ℕ) × Bool)

abbrev view_code : Coded VbView
view_code =
    code_by (Lists × Own) (coded× (coded× (coded_option kept_code) (coded× (coded_list entry_code) (coded× (coded_list entry_code) (coded_list entry_code)))) (coded× (coded_list (coded× coded_ℕ entry_code)) (coded× (coded× coded_ℕ coded_ℕ) coded_bool)))
    (λ v. ((v.opening, (v.seen, (v.met, v.base))), (v.mine, ((v.known, v.parts), v.turn))))
    (λ p. record { opening = p.0.0; seen = p.0.1.0; met = p.0.1.1.0; base = p.0.1.1.1; mine = p.1.0; known = p.1.1.0.0; parts = p.1.1.0.1; turn = p.1.1.1 })
    (λ _. refl)

abbrev row_code : Coded Row
row_code = code_by (ℕ × (TableId × VbView)) (coded× coded_ℕ (coded× table_id_coded view_code)) (λ r. (r.number, (r.table, r.view))) (λ p. record { number = p.0; table = p.1.0; view = p.1.1 }) (λ _. refl)

abbrev pub rows_code : Coded (List Row)
rows_code = coded_list row_code
