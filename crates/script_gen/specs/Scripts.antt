-- generated scripts
use Rattle.std.specs.Prelude.{◌≡◌, ℕ, zero, suc, ◌+◌, ◌%◌, ◌==◌, ◌||◌, if◌then◌else◌, false, List, [], ◌∷◌, ◌++◌, Option, Some, None}
use Rattle.script_text.specs.declared.verb.Verb.{Verb}
use Rattle.script_text.specs.declared.verb.Verb.TheVariants as verb
use Rattle.script_text.specs.declared.verb.VbVerb.TheVariants as vb_verb
use Rattle.script_text.specs.declared.verb.ClientVerb.TheVariants as client_verb
use Rattle.script_text.specs.declared.verb.LinkVerb.TheVariants as link_verb
use Rattle.script_text.specs.declared.verb.ScriptLine.{ScriptLine}
use Rattle.script_gen.specs.Writes.{stepped, write_verb}

-- first two nodes, an active vBucket and its replica, a client, and a link that follows and is granted its stream
abbrev pub opening : List Verb
opening =
    verb.Node 0
    ∷ verb.Node 1
    ∷ verb.AtVb 0 0 (vb_verb.MakeActive 1)
    ∷ verb.AtVb 1 0 vb_verb.MakeReplica
    ∷ verb.AtClient 0 1 client_verb.Open
    ∷ verb.Link 1 0 1 0 1000000 false
    ∷ verb.AtLink 1 (link_verb.Up 1000000000)
    ∷ []

-- behind some writes: the link carries them, and they are saved
abbrev pub carrying : List Verb
carrying =
    verb.AtLink 1 (link_verb.Pump 1000000)
    ∷ verb.AtLink 1 (link_verb.Down 1000000000)
    ∷ verb.AtLink 1 (link_verb.Up 1000000000)
    ∷ verb.AtVb 0 0 vb_verb.Take
    ∷ verb.AtVb 0 0 vb_verb.Save
    ∷ verb.AtVb 0 0 vb_verb.Done
    ∷ []

-- at the end both vBuckets are shown
abbrev pub closing : List Verb
closing = verb.AtVb 0 0 vb_verb.Show ∷ verb.AtVb 1 0 vb_verb.Show ∷ []

-- behind write i, where so many are left: behind each 64th, and behind the last
abbrev pub behind_write : ℕ → ℕ → List Verb
behind_write i left = if i % 64 == 0 || left == 0 then carrying else []

-- so many writes and what stands behind them, where so many were made before and x was the word of the last
unfoldable pub writes_from : ℕ → ℕ → ℕ → List Verb
writes_from zero made x = []
writes_from (suc left) made x = write_verb (made + 1) (stepped x) ∷ behind_write (made + 1) left ++ writes_from left (made + 1) (stepped x)

-- verbs as the lines of a script, the first of which has this number
abbrev pub numbered : ℕ → List Verb → List ScriptLine
numbered line [] = []
numbered line (v ∷ vs) = record { line = line; verb = v } ∷ numbered (line + 1) vs

-- the verbs of the generated script of this seed and so many writes
abbrev pub gen_verbs : ℕ → ℕ → List Verb
gen_verbs seed count = opening ++ writes_from count 0 seed ++ closing

-- the generated script of this seed and so many writes
unfoldable pub gen_script : ℕ → ℕ → List ScriptLine
gen_script seed count = numbered 1 (gen_verbs seed count)

-- the first of those that were to come is given, or none was to come
abbrev pub Gives : {A : Type 0} → List A → Option A → List A → Type 0
Gives before None after = (before ≡ []) × (after ≡ [])
Gives before (Some first) after = before ≡ first ∷ after
