-- what is kept of the groups is what is told of the script
use Rattle.std.proofs.Common.{◌≡◌, suc, ◌+◌, ◌-◌, List, [], ◌∷◌, ◌++◌, length, drop, refl, ap, sym, ◌∙◌, arith, append-nil}
use Rattle.std.specs.Prelude.{codes, decimal}
use Rattle.std.specs.List.{flat_map}
use Rattle.vb_events.specs.declared.event.Group.{Group}
use Rattle.node_world.specs.World.{PlainWorld, empty_world, world_step, groups, groups_from}
use Rattle.script_text.specs.Transcript.{group_text, print_of}
use Rattle.script_text.specs.declared.verb.ScriptLine.{ScriptLine}
use Rattle.dcp_main.specs.declared.summary.Tally.{Tally}
use Rattle.dcp_main.specs.Summaries.{newlines, shown_lines, last_two, summary_of, summary_text}
use Rattle.dcp_main.specs.Sums.{none_kept, transcript_lines, kept, kept_of, shown_in, text_of}
use Rattle.dcp_main.proofs.Newlines.{newlines_both}
use Rattle.dcp_main.proofs.TellLines.{group_told}

groups_many : (w : PlainWorld) (script : List ScriptLine) → length (groups_from w script) ≡ length script
groups_many w [] = refl
groups_many w (line ∷ script) = omega (arith, groups_many (world_step w line).0 script)

kept_lines : (s : Tally) (told : List Group) → (kept_of s told).script ≡ s.script + length told
kept_lines s [] = omega arith
kept_lines s (g ∷ told) = omega (arith, kept_lines (kept s g) told)

kept_told : (s : Tally) (told : List Group) → (kept_of s told).transcript ≡ s.transcript + newlines (print_of told)
kept_told s [] = omega arith
kept_told s (g ∷ told) = omega (arith, kept_told (kept s g) told, newlines_both (group_text g) (print_of told), group_told g)

-- with one more group in front the last two are the same
same_last : (a b c : Group) (told : List Group) → last_two (a ∷ b ∷ c ∷ told) ≡ last_two (b ∷ c ∷ told)
same_last a b c told =
    let long : length (a ∷ b ∷ c ∷ told) - 2 ≡ suc (length told) = omega arith in
    let short : length (b ∷ c ∷ told) - 2 ≡ length told = omega arith in
    ap (λ n. drop n (a ∷ b ∷ c ∷ told)) long ∙ sym (ap (λ n. drop n (b ∷ c ∷ told)) short)

shown_both : (s : Tally) (a b : Group) (told : List Group)
    → shown_in (kept_of s (a ∷ b ∷ told)).before ++ shown_in (kept_of s (a ∷ b ∷ told)).last ≡ flat_map shown_lines (last_two (a ∷ b ∷ told))
shown_both s a b [] = ap (λ text. shown_lines a ++ text) (sym (append-nil (shown_lines b)))
shown_both s a b (c ∷ told) = shown_both (kept s a) b c told ∙ ap (flat_map shown_lines) (sym (same_last a b c told))

kept_shown : (told : List Group) → shown_in (kept_of none_kept told).before ++ shown_in (kept_of none_kept told).last ≡ flat_map shown_lines (last_two told)
kept_shown [] = refl
kept_shown (a ∷ []) = sym (append-nil (shown_lines a))
kept_shown (a ∷ b ∷ told) = shown_both none_kept a b told

pub kept_summary : (script : List ScriptLine) → text_of (kept_of none_kept (groups script)) ≡ summary_text script
unfolding text_of summary_of
kept_summary script =
    let lines : (kept_of none_kept (groups script)).script ≡ length script = omega (arith, kept_lines none_kept (groups script), groups_many empty_world script) in
    let told : (kept_of none_kept (groups script)).transcript ≡ newlines (print_of (groups script)) = omega (arith, kept_told none_kept (groups script)) in
    let shown = kept_shown (groups script) in
    λ i. codes "script " ++ (decimal (lines i) ++ (codes "\ntranscript " ++ (decimal (told i) ++ (codes "\n" ++ shown i))))

pub lines_told : (told : List Group) → newlines (print_of told) ≡ transcript_lines told
lines_told [] = refl
lines_told (g ∷ told) = omega (arith, newlines_both (group_text g) (print_of told), group_told g, lines_told told)
