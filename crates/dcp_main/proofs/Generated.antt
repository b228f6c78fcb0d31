-- both lines that show a vBucket at the end of a script that is made are carried out
use Rattle.std.specs.Prelude.{◌==◌, ◌%◌, ◌||◌, ◌-◌, if◌then◌else◌, codes, decimal, drop}
use Rattle.std.proofs.Common.{◌≡◌, ℕ, zero, suc, ◌+◌, Bool, true, false, List, [], ◌∷◌, ◌++◌, length, refl, ap, sym, ◌∙◌, subst, Option, Some, None, is_some, length-append, arith}
use Rattle.std.specs.List.{flat_map}
use Rattle.std.proofs.Math.Seq.{drop-append_seam}
use Rattle.node_world.proofs.WorldRests.{empty_rests, world_rests}
use Rattle.node_world.specs.Nodes.{PlainNode, bytes_at, client_at, done, empty_node, first_cause, flush_line, if_up, refusal, save_line}
use Rattle.node_world.specs.Rests.{Rests}
use Rattle.node_world.specs.Links.{producer_node, up_at}
use Rattle.node_world.specs.Turns.{admin_line, call_told}
use Rattle.node_world.specs.World.{ask_in, base_of, empty_world, group_with, groups, groups_from, link_causes, verb_step, with_dialed, world_step}
use Rattle.node_world.specs.Worlds.{PlainWorld, node_outcome, on_node, vb_in, with_links}
use Rattle.script_gen.specs.Scripts.{behind_write, carrying, closing, gen_script, numbered, opening, writes_from}
use Rattle.script_gen.specs.Writes.{stepped, write_verb}
use Rattle.script_gen.proofs.Lines.{numbered_front}
use Rattle.script_text.specs.declared.verb.Verb.{Verb}
use Rattle.script_text.specs.declared.verb.Verb.TheVariants as verb
use Rattle.script_text.specs.declared.verb.VbVerb.TheVariants as vb_verb
use Rattle.script_text.specs.declared.verb.LinkVerb.TheVariants as link_verb
use Rattle.script_text.specs.declared.verb.ClientVerb.TheVariants as client_verb
use Rattle.script_text.specs.declared.verb.ScriptLine.{ScriptLine}
use Rattle.transcript_law.specs.Prefixes.{world_after}
use Rattle.transcript_law.proofs.Words.{AdminCall, Plain, VbCall, admin_result, call_at, plain_step}
use Rattle.vb_events.specs.declared.event.Cause.TheVariants as cause
use Rattle.vb_events.specs.declared.event.Event.TheVariants as event
use Rattle.vb_events.specs.declared.event.Group.{Group}
use Rattle.vb_types.specs.declared.journal.FlushPart.TheVariants as part
use Rattle.dcp_main.specs.Showing.{BothShown, ShowsOne}
use Rattle.dcp_main.specs.Summaries.{last_two, newlines, shown_lines, summary_of, summary_text}
use Rattle.dcp_main.proofs.Newlines.{decimal_plain, newlines_both}
use Rattle.dcp_main.proofs.Showing.{shown_one}
use Rattle.script_text.specs.Transcript.{print_of}
use Rattle.dcp_main.proofs.TellLines.{event_line}
use Rattle.transcript_law.proofs.invariant.Staying.{Here, RunsIf, admin_stays, armed_here, bytes_stay, client_stays, down_here, due_here, flush_stays, link_here, node_here, nodes_here, pump_here, save_stays, unless_here, up_stays}

-- ---- the lines behind the first four

-- it stops no node, sets no arm and makes nothing
abbrev IsQuiet : Verb → Type 0
IsQuiet (verb.AtClient n c client_verb.Open) = Unit {0}
IsQuiet (verb.AtClient n c (client_verb.Bytes bytes)) = Unit {0}
IsQuiet (verb.Link l m n v buffer takeover) = Unit {0}
IsQuiet (verb.AtLink l (link_verb.Up wanted)) = Unit {0}
IsQuiet (verb.AtLink l (link_verb.Down wanted)) = Unit {0}
IsQuiet (verb.AtLink l (link_verb.Pump frames)) = Unit {0}
IsQuiet (verb.AtVb n v vb_verb.Take) = Unit {0}
IsQuiet (verb.AtVb n v vb_verb.Save) = Unit {0}
IsQuiet (verb.AtVb n v vb_verb.Done) = Unit {0}
IsQuiet (verb.AtVb n v vb_verb.Show) = Unit {0}
IsQuiet other = ⊥

abbrev AreQuiet : List Verb → Type 0
AreQuiet [] = Unit {0}
AreQuiet (v ∷ vs) = IsQuiet v × AreQuiet vs

both_quiet : (vs ws : List Verb) → AreQuiet vs → AreQuiet ws → AreQuiet (vs ++ ws)
both_quiet [] ws first next = next
both_quiet (v ∷ vs) ws first next = (first.0, both_quiet vs ws first.1 next)

behind_quiet : (i left : ℕ) → AreQuiet (behind_write i left)
behind_quiet i left = by (i % 64 == 0 || left == 0)
  where
    by : (b : Bool) → AreQuiet (if b then carrying else [])
    by true = (tt, (tt, (tt, (tt, (tt, (tt, tt))))))
    by false = tt

writes_quiet : (left made x : ℕ) → AreQuiet (writes_from left made x)
unfolding writes_from write_verb
writes_quiet zero made x = tt
writes_quiet (suc left) made x = (tt, both_quiet (behind_write (made + 1) left) (writes_from left (made + 1) (stepped x)) (behind_quiet (made + 1) left) (writes_quiet left (made + 1) (stepped x)))

module _ (n v : ℕ) where
  verb_here : (w : PlainWorld) (line : ℕ) (said : Verb) → IsQuiet said → Here n v w → Here n v (verb_step w line said).0
  verb_here w line (verb.AtClient m c client_verb.Open) quiet here = node_here n v w m (client_at m (base_of line) c) here (client_stays m (base_of line) c)
  verb_here w line (verb.AtClient m c (client_verb.Bytes bytes)) quiet here = node_here n v w m (bytes_at c bytes) here (bytes_stay c bytes)
  verb_here w line (verb.Link l m k u buffer takeover) quiet here =
      let now : PlainWorld = with_links w (with_dialed line l m k u buffer takeover w.links (ask_in w k u)) in
      unless_here n v (first_cause (link_causes w l m k u)) w (now, done []) here (nodes_here n v w now refl here)
  verb_here w line (verb.AtLink l (link_verb.Up wanted)) quiet here = link_here n v w l producer_node (up_at wanted) here (up_stays wanted)
  verb_here w line (verb.AtLink l (link_verb.Down wanted)) quiet here = down_here n v w l wanted here
  verb_here w line (verb.AtLink l (link_verb.Pump frames)) quiet here = pump_here n v w l frames here
  verb_here w line (verb.AtVb m u vb_verb.Take) quiet here = node_here n v w m (flush_line m u part.Take) here (flush_stays m u part.Take)
  verb_here w line (verb.AtVb m u vb_verb.Save) quiet here = armed_here n v w m (on_node w m (save_line m u)) here (node_here n v w m (save_line m u) here (save_stays m u))
  verb_here w line (verb.AtVb m u vb_verb.Done) quiet here = due_here n v m u (on_node w m (flush_line m u part.Done)) (node_here n v w m (flush_line m u part.Done) here (flush_stays m u part.Done))
  verb_here w line (verb.AtVb m u vb_verb.Show) quiet here = node_here n v w m (admin_line m u AdminCall.Show) here (admin_stays m u AdminCall.Show)
  verb_here w line other quiet here = absurd quiet

  step_here : (w : PlainWorld) (line : ScriptLine) → IsQuiet line.verb → Here n v w → Here n v (world_step w line).0
  unfolding world_step
  step_here w line quiet here =
      let now : PlainWorld = (verb_step w line.line line.verb).0 in nodes_here n v now (world_step w line).0 refl (verb_here w line.line line.verb quiet here)

  lines_here : (vs : List Verb) (first : ℕ) (w : PlainWorld) → AreQuiet vs → Here n v w → Here n v (world_after w (numbered first vs))
  lines_here [] first w quiet here = here
  lines_here (said ∷ vs) first w quiet here = lines_here vs (first + 1) (world_step w (record { line = first; verb = said })).0 quiet.1 (step_here w (record { line = first; verb = said }) quiet.0 here)

-- ---- the first four lines

abbrev made_lines : List ScriptLine
made_lines = numbered 1 (verb.Node 0 ∷ verb.Node 1 ∷ verb.AtVb 0 0 (vb_verb.MakeActive 1) ∷ verb.AtVb 1 0 vb_verb.MakeReplica ∷ [])

abbrev made_world : PlainWorld
made_world = world_after empty_world made_lines

made_rests : (script : List ScriptLine) (w : PlainWorld) → Rests w → Rests (world_after w script)
made_rests [] w rests = rests
made_rests (line ∷ script) w rests = made_rests script (world_step w line).0 (world_rests w line rests)

no_arms : Rests made_world
no_arms = made_rests made_lines empty_world empty_rests

made_run : (m : ℕ) → RunsIf (made_world.nodes m)
unfolding world_step
made_run m = by (m == 1) (m == 0)
  where
    by : (one none : Bool)
        → RunsIf (if one then made_world.nodes 1 else if none then made_world.nodes 0 else if one then Some empty_node else if none then Some empty_node else None)
    by true none = record { up = refl; unarmed = refl; rests = no_arms 1 }
    by false true = record { up = refl; unarmed = refl; rests = no_arms 0 }
    by false false = tt

active_here : Here 0 0 made_world
unfolding world_step
active_here = record { runs = made_run; there = refl }

replica_here : Here 1 0 made_world
unfolding world_step
replica_here = record { runs = made_run; there = refl }

-- ---- the last two

-- a vBucket that is there is shown
there_shown : (w : PlainWorld) (number n v : ℕ) → Here n v w → ShowsOne n v (world_step w (record { line = number; verb = verb.AtVb n v vb_verb.Show })).1
unfolding world_step
there_shown w number n v here = by (w.nodes n) (here.runs n) here.there
  where
    held : (node : PlainNode) (o : Option Plain) → is_some o ≡ true → ShowsOne n v (group_with number (call_told (admin_result n v AdminCall.Show (call_at node.vbs v VbCall.Show o).1)))
    held node None there = absurd (cc there)
    held node (Some vb) there = shown_one number n v (plain_step vb VbCall.Show).1 _ _ _ _ _ _

    by : (o : Option PlainNode) → RunsIf o → is_some (vb_in o v) ≡ true
        → ShowsOne n v (group_with number (node_outcome w n (refusal cause.UnknownNode) o (if_up (admin_line n v AdminCall.Show))).1)
    by None runs there = absurd (cc there)
    by (Some node) runs there =
        subst (λ off. ShowsOne n v (group_with number (if off then (node, refusal cause.NodeDown) else admin_line n v AdminCall.Show node).1)) (sym runs.up)
        (held node (node.vbs v) there)

groups_front : (w : PlainWorld) (front rest : List ScriptLine) → groups_from w (front ++ rest) ≡ groups_from w front ++ groups_from (world_after w front) rest
groups_front w [] rest = refl
groups_front w (line ∷ front) rest = ap (λ told. (world_step w line).1 ∷ told) (groups_front (world_step w line).0 front rest)

last_are : (front : List Group) (a b : Group) → last_two (front ++ a ∷ b ∷ []) ≡ a ∷ b ∷ []
last_are front a b =
    let many : length (front ++ a ∷ b ∷ []) - 2 ≡ length front = omega (arith, length-append front (a ∷ b ∷ [])) in
    ap (λ n. drop n (front ++ a ∷ b ∷ [])) many ∙ drop-append_seam front (a ∷ b ∷ [])

-- what stands behind the first four lines, and before the last two
abbrev between : ℕ → ℕ → List Verb
between seed count = drop 4 opening ++ writes_from count 0 seed

between_quiet : (seed count : ℕ) → AreQuiet (between seed count)
between_quiet seed count = (tt, (tt, (tt, writes_quiet count 0 seed)))

module _ (seed count : ℕ) where
  abbrev late : PlainWorld
  late = world_after made_world (numbered 5 (between seed count))

  abbrev at : ℕ
  at = 5 + length (between seed count)

  abbrev show_first : ScriptLine
  show_first = record { line = at; verb = verb.AtVb 0 0 vb_verb.Show }

  abbrev show_next : ScriptLine
  show_next = record { line = at + 1; verb = verb.AtVb 1 0 vb_verb.Show }

  told : groups (gen_script seed count)
      ≡ (groups_from empty_world made_lines ++ groups_from made_world (numbered 5 (between seed count))) ++ (world_step late show_first).1 ∷ (world_step (world_step late show_first).0 show_next).1 ∷ []
  unfolding gen_script
  told =
      let front = groups_from empty_world made_lines in
      ap (λ lines. front ++ groups_from made_world lines) (numbered_front 5 (between seed count) closing)
      ∙ ap (λ more. front ++ more) (groups_front made_world (numbered 5 (between seed count)) (numbered at closing))

  pub both_shown : BothShown (gen_script seed count)
  both_shown =
      let first : Group = (world_step late show_first).1 in
      let next : Group = (world_step (world_step late show_first).0 show_next).1 in
      let front = groups_from empty_world made_lines ++ groups_from made_world (numbered 5 (between seed count)) in
      record {
        first = first;
        second = next;
        last = ap last_two told ∙ last_are front first next;
        active = there_shown late at 0 0 (lines_here 0 0 (between seed count) 5 made_world (between_quiet seed count) active_here);
        replica = there_shown (world_step late show_first).0 (at + 1) 1 0 (step_here 1 0 late show_first tt (lines_here 1 0 (between seed count) 5 made_world (between_quiet seed count) replica_here));
      }

-- ---- how many lines tell of it

-- a line that is shown is one line
one_line : (n v : ℕ) (g : Group) → ShowsOne n v g → newlines (shown_lines g) ≡ 1
one_line n v g shown = ap newlines shown.one ∙ event_line (event.Shown n v shown.role shown.uuid shown.at shown.ss shown.se shown.docs shown.preps)

pub four_lines : (seed count : ℕ) → newlines (summary_text (gen_script seed count)) ≡ 4
unfolding summary_of
four_lines seed count =
    let script : List ScriptLine = gen_script seed count in
    let shown = both_shown seed count in
    let a : List ℕ = shown_lines shown.first in
    let b : List ℕ = shown_lines shown.second in
    let last : flat_map shown_lines (last_two (groups script)) ≡ a ++ (b ++ []) = ap (flat_map shown_lines) shown.last in
    let both : newlines (flat_map shown_lines (last_two (groups script))) ≡ 2 =
    ap newlines last ∙ omega (arith, newlines_both a (b ++ []), newlines_both b [], one_line 0 0 shown.first shown.active, one_line 1 0 shown.second shown.replica) in
    let lines = decimal (length script) in
    let many = decimal (newlines (print_of (groups script))) in
    let rest = flat_map shown_lines (last_two (groups script)) in
    omega (arith, both, newlines_both lines (codes "\ntranscript " ++ (many ++ (codes "\n" ++ rest))), newlines_both many (codes "\n" ++ rest), decimal_plain (length script), decimal_plain (newlines (print_of (groups script))))
