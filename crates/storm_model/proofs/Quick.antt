-- the lines of a storm by a list of its keys
use Rattle.std.proofs.Common.{◌≡◌, ℕ, true, List, [], ◌∷◌, map, length, ap, sym, ◌∙◌}
use Rattle.std.specs.List.{fold}
use Rattle.std.specs.FinMap as finite
use Rattle.std.specs.FinMap.{entries, entries_sorted, entries-insert, get-entries, slice_cmp-IsAntisymmetric, nat_cmp-IsAntisymmetric}
use Rattle.std.specs.FinMap.Entries.{put, same_entries}
use Rattle.std.specs.Cmp.Lexicographic.{nat_list_cmp_total}
use Rattle.vb_types.specs.Keys.{key_cmp}
use Rattle.vb_types.specs.declared.write.Write.{Write}
use Rattle.storm_model.specs.declared.lines.StormLine.{StormLine}
use Rattle.storm_model.specs.Histories.{put_in}
use Rattle.storm_model.specs.Ledgers.{with_write}
use Rattle.storm_model.specs.Limits.{is_storm}
use Rattle.storm_model.specs.Sums.{in_turn, line_of, storm_sum, storm_vb}
use Rattle.storm_model.proofs.AllRead.{line_with, turn_line}

-- a value in its place
abbrev pub placed : List (List ℕ × List ℕ) → List ℕ × List ℕ → List (List ℕ × List ℕ)
placed es e = put key_cmp e.0 e.1 es

placed_are : (es : List (List ℕ × List ℕ)) (m : finite.FinMap key_cmp (List ℕ)) (l : List (List ℕ × List ℕ)) → entries m ≡ l → entries (fold with_write m es) ≡ fold placed l es
placed_are [] m l e = e
placed_are (w ∷ es) m l e = placed_are es (with_write m w) (placed l w) (entries-insert nat_list_cmp_total m w.0 w.1 ∙ ap (put key_cmp w.0 w.1) e)

none_placed : entries (finite.empty {X = List ℕ} {R = key_cmp}) ≡ []
none_placed = same_entries key_cmp nat_list_cmp_total (slice_cmp-IsAntisymmetric nat_cmp-IsAntisymmetric) (entries (finite.empty {X = List ℕ} {R = key_cmp})) [] (entries_sorted finite.empty) tt
    (λ q. sym (get-entries finite.empty q) ∙ finite.get-empty key_cmp q)

-- the line of these writes
abbrev pub quick_line : List Write → StormLine
quick_line ws = line_with (length ws) (fold placed [] (map put_in ws))

line_is : (seed clients writes v : ℕ) → is_storm clients writes ≡ true → line_of (storm_vb v (in_turn seed clients writes v)) ≡ quick_line (in_turn seed clients writes v)
line_is seed clients writes v fits =
    turn_line seed clients writes v fits ∙ ap (line_with (length (in_turn seed clients writes v))) (placed_are (map put_in (in_turn seed clients writes v)) finite.empty [] none_placed)

pub lines_are : (seed clients writes : ℕ) → is_storm clients writes ≡ true
    → storm_sum seed clients writes ≡ quick_line (in_turn seed clients writes 0) ∷ quick_line (in_turn seed clients writes 1) ∷ quick_line (in_turn seed clients writes 2) ∷ quick_line (in_turn seed clients writes 3) ∷ []
lines_are seed clients writes fits = (λ i. line_is seed clients writes 0 fits i ∷ line_is seed clients writes 1 fits i ∷ line_is seed clients writes 2 fits i ∷ line_is seed clients writes 3 fits i ∷ [])
