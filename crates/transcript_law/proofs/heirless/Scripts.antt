-- along a script: a branch that is without an heir by its lines has no active vBucket behind any longer script
use Rattle.std.specs.Prelude.{◌≡◌, ◌∷◌, ◌++◌, false}
use Rattle.std.specs.List.{list_any}
use Rattle.transcript_law.proofs.Words.{ℕ, Bool, true, not, List, [], refl, ap, sym, ◌∙◌, subst, inl, inr, ⊎_elim, All, All-head, All-tail, Option, Some, None, is_some, Answer, Chronicle, ClientVerb, LinkVerb, NodeVerb, PlainLink, PlainWorld, Role, ScriptFits, ScriptLine, Verb, VbVerb, VerbFits, after_lines, after_verb, empty_chronicle, empty_world, groups_from, known_of, link_number, producer_node, verb_step, with_branches, world_of, world_step}
use Rattle.transcript_law.proofs.Runs.{Along, along, along_start, group_fits, group_lawful, known, later}
use Rattle.transcript_law.proofs.heirless.{Adopts.{adopts}, Starts.{apart_of, start_apart}, Barren.{Barren, TurnsFit, barren_less, quiet}, Begins.{barren_of, nobody}, Groups.{StartsApart, ahead_less}, Tells.{AdoptsRest, tells_fit}, Turns.{FeedersUp}, Whole.{Calm, group_barren}}
use Rattle.transcript_law.proofs.indexers.Beside.{numbered}
use Rattle.transcript_law.proofs.invariant.{Agreement.{Agrees, AgreesIn, PowerIsIf, idle, is_running, power_of}, Trees.{IsTold}}
use Rattle.transcript_law.proofs.{disks.Disks.{Power}, ends.Links.{AllLinked}}
use Rattle.transcript_law.proofs.noted.{FreedGroups.{ahead_dials, dials_differ}, Joint.{noted_of}}
use Rattle.transcript_law.specs.Chronicles.{ArmKnown, after_group, ahead, at_line}
use Rattle.transcript_law.specs.{Heirless.{IsHeirless, NobodyWrites}, Lawfulness.{LawfulGroup, LinesFrom}, Takeovers.{TellsOnly}, LinesTold.{Dial}, Prefixes.{known_after, world_after}}

-- ---- what the group of each line does

-- the node of a link's producer runs
runs_not : (told : ArmKnown) (o : Option Power) → PowerIsIf told o → is_running o ≡ true → told.down ≡ false
runs_not told None p e = cc
runs_not told (Some power) p e = p.down ∙ off (is_some power.off) e
  where
    off : (b : Bool) → not b ≡ true → b ≡ false
    off true z = cc
    off false z = refl

feeders_up : (w : PlainWorld) (r : Chronicle) (a : Agrees w r) → AllLinked w r.dial_of → FeedersUp r
feeders_up w r (c, a) linked l d e =
    let (x, i, s) = linked l d e in
    let z : Some d ≡ Some (record { producer = x.server.desk.node; node = x.consumer.dialed.node; vb = x.consumer.dialed.vb }) = sym e ∙ ap r.dial_of (sym s) ∙ (a.links x i).dial.dialed in
    let same : d ≡ record { producer = x.server.desk.node; node = x.consumer.dialed.node; vb = x.consumer.dialed.vb } = cc in
    subst (λ (y : Dial). (r.arm_at y.producer).down ≡ false) (sym same) (runs_not (r.arm_at (producer_node x)) (power_of w (producer_node x)) (a.powers (producer_node x)) (a.ends x i).producer)

ahead_arms : (r : Chronicle) (line : Verb) (said : Answer) → (ahead r line said).arm_at ≡ r.arm_at
ahead_arms r (Verb.AtVb n v (VbVerb.Chain others)) Answer.Ok = refl
ahead_arms r (Verb.AtVb n v (VbVerb.Chain others)) other = refl
ahead_arms r (Verb.AtVb n v VbVerb.Done) (Answer.Number saved) = refl
ahead_arms r (Verb.AtVb n v VbVerb.Done) other = refl
ahead_arms r (Verb.AtClient n c (ClientVerb.Bytes bytes)) Answer.Ok = refl
ahead_arms r (Verb.AtClient n c (ClientVerb.Bytes bytes)) other = refl
ahead_arms r (Verb.AtNode n (NodeVerb.Crash out)) Answer.Ok = refl
ahead_arms r (Verb.AtNode n (NodeVerb.Crash out)) other = refl
ahead_arms r other said = refl

ahead_up : (r : Chronicle) (line : Verb) (said : Answer) → FeedersUp r → FeedersUp (ahead r line said)
ahead_up r line said up l d e = ap (λ (t : ℕ → ArmKnown). (t d.producer).down) (ahead_arms r line said) ∙ up l d (sym (ap (λ (t : ℕ → Option Dial). t l) (ahead_dials r line said)) ∙ e)

module _ (u : ℕ) where
  adopts_rest : (w : PlainWorld) (r : Chronicle) (number : ℕ) (line : Verb) → Agrees w r → AllLinked w r.dial_of → AdoptsRest r line (verb_step w number line).1.events
  adopts_rest w r number (Verb.AtLink l (LinkVerb.Down wanted)) a linked = adopts w r l wanted a linked
  adopts_rest w r number (Verb.AtLink l (LinkVerb.Up wanted)) a linked = tt
  adopts_rest w r number (Verb.AtLink l (LinkVerb.Pump wanted)) a linked = tt
  adopts_rest w r number (Verb.AtLink l LinkVerb.Drop) a linked = tt
  adopts_rest w r number (Verb.AtLink l LinkVerb.Cut) a linked = tt
  adopts_rest w r number (Verb.Node n) a linked = tt
  adopts_rest w r number (Verb.Link l m n v buffer takeover) a linked = tt
  adopts_rest w r number (Verb.AtNode n what) a linked = tt
  adopts_rest w r number (Verb.AtVb n v what) a linked = tt
  adopts_rest w r number (Verb.AtClient n c what) a linked = tt

  -- one line more
  step : (w : PlainWorld) (r : Chronicle) (line : ScriptLine) (fit : VerbFits line.verb) (x : Along w r) → Barren (Calm r) u r → Barren (Calm (known w r line fit x)) u (known w r line fit x)
  step w r line fit x b =
      let o = verb_step w line.line line.verb in
      let r0 : Chronicle = at_line r line.line in
      let a0 : Agrees w r0 = numbered w r line.line x.agrees in
      let lawful : LawfulGroup r0 line (record { line = line.line; events = o.1.events; answer = o.1.answer }) = group_lawful w r line fit x in
      let b0 : Barren (Calm r0) u r0 = barren_less (Calm r) (Calm r0) u r r0 (λ l s. s) (quiet u r r0 refl refl refl refl refl refl refl) b in
      let up : FeedersUp (ahead r0 line.verb o.1.answer) = ahead_up r0 line.verb o.1.answer (feeders_up w r0 a0 x.linked) in
      let turns : TurnsFit u (ahead r0 line.verb o.1.answer) o.1.events = tells_fit u r0 r.conn_at line.verb o.1.events o.1.answer lawful.5.tells lawful.6 (adopts_rest w r0 line.line line.verb a0 x.linked) ((ahead_less u r0 line.verb o.1.answer).told b0.told) up lawful.0 in
      let apart = starts_apart w r0 line fit a0 b0 lawful in
      group_barren u r0 line.verb o.1.events o.1.answer lawful.0 (group_fits w r line fit x) turns apart (dials_differ w r0 a0.0 a0.1 x.linked) b0
    where
      starts_apart : (w : PlainWorld) (r : Chronicle) (line : ScriptLine) → VerbFits line.verb → Agrees w r → Barren (Calm r) u r
          → (let o = verb_step w line.line line.verb in LawfulGroup r line (record { line = line.line; events = o.1.events; answer = o.1.answer }) → StartsApart u line.verb o.1.events (after_verb r (after_lines (ahead r line.verb o.1.answer) o.1.events) line.verb o.1.events o.1.answer))
      starts_apart w r line fit a b l = by line.verb refl
        where
          by : (v : Verb) → line.verb ≡ v → (let o = verb_step w line.line line.verb in StartsApart u line.verb o.1.events (after_verb r (after_lines (ahead r line.verb o.1.answer) o.1.events) line.verb o.1.events o.1.answer))
          by (Verb.AtNode n (NodeVerb.Start uuids)) e =
              let o = verb_step w line.line line.verb in
              subst (λ v. LinesFrom (ahead r v o.1.answer) r.conn_at o.1.events → TellsOnly r v o.1.events → StartsApart u v o.1.events (after_verb r (after_lines (ahead r v o.1.answer) o.1.events) v o.1.events o.1.answer)) (sym e)
              (start_apart n u r r.conn_at uuids o.1.events o.1.answer (apart_of w r a u b n) b.told) l.0 l.5.tells
          by other e = let o = verb_step w line.line line.verb in subst (λ v. StartsApart u v o.1.events (after_verb r (after_lines (ahead r line.verb o.1.answer) o.1.events) line.verb o.1.events o.1.answer)) (sym e) tt

  -- more lines
  barren_on : (w : PlainWorld) (r : Chronicle) (script : List ScriptLine) → ScriptFits script → Along w r → Barren (Calm r) u r → NobodyWrites (known_after r script (groups_from w script)) (world_after w script) u
  unfolding world_step
  barren_on w r [] fits x b = nobody w r x.agrees.0 x.agrees.1 (Calm r) u b
  barren_on w r (line ∷ lines) fits x b =
      let fit = All-head (λ (y : ScriptLine). VerbFits y.verb) line lines fits in
      barren_on (later w r line fit x) (known w r line fit x) lines (All-tail (λ (y : ScriptLine). VerbFits y.verb) line lines fits) (along w r line fit x) (step w r line fit x b)

  -- some lines first, behind which it is without an heir
  heirless_from : (w : PlainWorld) (r : Chronicle) (script more : List ScriptLine) → ScriptFits (script ++ more) → Along w r → IsHeirless (known_after r script (groups_from w script)) u → NobodyWrites (known_after r (script ++ more) (groups_from w (script ++ more))) (world_after w (script ++ more)) u
  unfolding world_step
  heirless_from w r [] more fits x h = barren_on w r more fits x (barren_of w r x.agrees.0 x.agrees.1 x.linked (noted_of w r x.handed) u h)
  heirless_from w r (line ∷ lines) more fits x h =
      let fit = All-head (λ (y : ScriptLine). VerbFits y.verb) line (lines ++ more) fits in
      heirless_from (later w r line fit x) (known w r line fit x) lines more (All-tail (λ (y : ScriptLine). VerbFits y.verb) line (lines ++ more) fits) (along w r line fit x) h

  -- behind a whole script
  pub heirless_stays : (script more : List ScriptLine) → ScriptFits (script ++ more) → IsHeirless (known_of script) u → NobodyWrites (known_of (script ++ more)) (world_of (script ++ more)) u
  heirless_stays script more fits h = heirless_from empty_world empty_chronicle script more fits along_start h
