-- what the words of a line say
use Rattle.std.specs.Prelude.{ℕ, ◌==◌, ◌&&◌, if◌then◌else◌, nat_le, List, [], ◌∷◌, length, Bool, true, false, Option, Some, None, option_and_then, Result, Ok, Err, codes}
use Rattle.std.specs.Option.{option_map}
use Rattle.std.specs.Str.{bytes_eq}
use Rattle.hex.specs.Hex.{decode_of}
use Rattle.script_text.specs.Numbers.{number_of, node_of, vbucket_of, connection_of, moved_of, frames_of, byte_of, buffer_of, numbers_of}
use Rattle.script_text.specs.declared.line.TheConstants.{BRANCHES, OTHERS}
use Rattle.vb_disk.specs.declared.made.Outcome.{Outcome}
use Rattle.vb_disk.specs.declared.made.Outcome.TheVariants as outcome
use Rattle.script_text.specs.declared.verb.Verb.{Verb}
use Rattle.script_text.specs.declared.verb.Verb.TheVariants as verb
use Rattle.script_text.specs.declared.verb.VbVerb.{VbVerb}
use Rattle.script_text.specs.declared.verb.VbVerb.TheVariants as vb_verb
use Rattle.script_text.specs.declared.verb.NodeVerb.TheVariants as node_verb
use Rattle.script_text.specs.declared.verb.LinkVerb.{LinkVerb}
use Rattle.script_text.specs.declared.verb.LinkVerb.TheVariants as link_verb
use Rattle.script_text.specs.declared.verb.ClientVerb.TheVariants as client_verb

-- the bytes, if digits were decoded
abbrev pub if_decoded : {E : Type 0} → Result (List ℕ) E → Option (List ℕ)
if_decoded (Err e) = None
if_decoded (Ok bytes) = Some bytes

-- the bytes that a text of hexadecimal digits says, if it has any digit
unfoldable pub hex_bytes_of : List ℕ → Option (List ℕ)
hex_bytes_of text = if length text == 0 then None else if_decoded (decode_of text)

-- `node N`
abbrev pub node_line : List ℕ → Option Verb
node_line node = option_map verb.Node (node_of node)

-- a line that names a link and nothing more, by what it asks of it: `cut L`, `drop L`
abbrev pub link_alone : LinkVerb → List ℕ → Option Verb
link_alone what link = option_map (λ l. verb.AtLink l what) (connection_of link)

-- a line of two words, by its first
abbrev pub two_words : List ℕ → List ℕ → Option Verb
two_words word a =
    if bytes_eq word (codes "node") then node_line a
    else if bytes_eq word (codes "cut") then link_alone link_verb.Cut a
    else if bytes_eq word (codes "drop") then link_alone link_verb.Drop a
    else None

-- `clock N T`
abbrev pub clock_line : List ℕ → List ℕ → Option Verb
clock_line node nanos = option_and_then (λ n. option_map (λ x. verb.AtNode n (node_verb.Clock x)) (number_of nanos)) (node_of node)

-- `client N C`
abbrev pub client_line : List ℕ → List ℕ → Option Verb
client_line node client = option_and_then (λ n. option_map (λ x. verb.AtClient n x client_verb.Open) (connection_of client)) (node_of node)

-- `hang N C`
abbrev pub hang_line : List ℕ → List ℕ → Option Verb
hang_line node client = option_and_then (λ n. option_map (λ x. verb.AtClient n x client_verb.Hang) (connection_of client)) (node_of node)

-- `up L B`
abbrev pub up_line : List ℕ → List ℕ → Option Verb
up_line link bytes = option_and_then (λ l. option_map (λ x. verb.AtLink l (link_verb.Up x)) (moved_of bytes)) (connection_of link)

-- `down L B`
abbrev pub down_line : List ℕ → List ℕ → Option Verb
down_line link bytes = option_and_then (λ l. option_map (λ x. verb.AtLink l (link_verb.Down x)) (moved_of bytes)) (connection_of link)

-- `pump L K`
abbrev pub pump_line : List ℕ → List ℕ → Option Verb
pump_line link frames = option_and_then (λ l. option_map (λ x. verb.AtLink l (link_verb.Pump x)) (frames_of frames)) (connection_of link)

-- what a line of three words asks of a vBucket, by the first
abbrev pub verb_of_vb : List ℕ → Option VbVerb
verb_of_vb word =
    if bytes_eq word (codes "show") then Some vb_verb.Show
    else if bytes_eq word (codes "follow") then Some vb_verb.Follow
    else if bytes_eq word (codes "dead") then Some vb_verb.Dead
    else if bytes_eq word (codes "tick") then Some vb_verb.Tick
    else if bytes_eq word (codes "seal") then Some vb_verb.Seal
    else if bytes_eq word (codes "trim") then Some vb_verb.Trim
    else if bytes_eq word (codes "take") then Some vb_verb.Take
    else if bytes_eq word (codes "save") then Some vb_verb.Save
    else if bytes_eq word (codes "done") then Some vb_verb.Done
    else if bytes_eq word (codes "stat") then Some vb_verb.Stat
    else if bytes_eq word (codes "log") then Some vb_verb.Log
    else None

-- a line of three words that names a vBucket of a node, by what is asked of it
abbrev pub vbucket_words : List ℕ → List ℕ → List ℕ → Option Verb
vbucket_words word node vb = option_and_then (λ n. option_and_then (λ v. option_map (verb.AtVb n v) (verb_of_vb word)) (vbucket_of vb)) (node_of node)

-- what a crash leaves, in one word
abbrev pub kept_of : List ℕ → Option Outcome
kept_of word = if bytes_eq word (codes "old") then Some outcome.Old else if bytes_eq word (codes "new") then Some outcome.New else None

-- what a crash leaves, in two words: `fill` and a byte
abbrev pub filled_of : List ℕ → List ℕ → Option Outcome
filled_of word byte = if bytes_eq word (codes "fill") then option_map outcome.Fill (byte_of byte) else None

-- `stop N K OUT`, by what OUT says
abbrev pub stop_line : List ℕ → List ℕ → Option Outcome → Option Verb
stop_line node call out = option_and_then (λ n. option_and_then (λ k. option_map (λ x. verb.AtNode n (node_verb.Stop k x)) out) (moved_of call)) (node_of node)

-- `fail N K`
abbrev pub fail_line : List ℕ → List ℕ → Option Verb
fail_line node call = option_and_then (λ n. option_map (λ x. verb.AtNode n (node_verb.Fail x)) (moved_of call)) (node_of node)

-- `crash N OUT`, by what OUT says
abbrev pub crash_line : List ℕ → Option Outcome → Option Verb
crash_line node out = option_and_then (λ n. option_map (λ x. verb.AtNode n (node_verb.Crash x)) out) (node_of node)

-- `start N`, and the branches by what their words say
abbrev pub start_line : List ℕ → Option (List ℕ) → Option Verb
start_line node uuids = option_and_then (λ n. option_map (λ x. verb.AtNode n (node_verb.Start x)) uuids) (node_of node)

-- the branches that a line names, if they are not too many
abbrev pub branches_of : List (List ℕ) → Option (List ℕ)
branches_of words = if nat_le (length words) BRANCHES then numbers_of words else None

-- a member of a chain, which is a node, or a dash for one that is not set
abbrev pub member_of : List ℕ → Option (Option ℕ)
member_of word = if bytes_eq word (codes "-") then Some None else option_map Some (node_of word)

-- the members that words say, if each says one
abbrev pub members_of : List (List ℕ) → Option (List (Option ℕ))
members_of [] = Some []
members_of (word ∷ words) = option_and_then (λ m. option_map (λ more. m ∷ more) (members_of words)) (member_of word)

-- the members that a line names, if they are not too many
abbrev pub others_of : List (List ℕ) → Option (List (Option ℕ))
others_of words = if nat_le (length words) OTHERS then members_of words else None

-- `chain N V`, and the members by what their words say
abbrev pub chain_line : List ℕ → List ℕ → Option (List (Option ℕ)) → Option Verb
chain_line node vb others = option_and_then (λ n. option_and_then (λ v. option_map (λ x. verb.AtVb n v (vb_verb.Chain x)) others) (vbucket_of vb)) (node_of node)

-- a line that sets a chain, by what stands behind its node
abbrev pub chain_words : List ℕ → List (List ℕ) → Option Verb
chain_words node [] = None
chain_words node (vb ∷ others) = chain_line node vb (others_of others)

-- a line of three words, by its first
abbrev pub three_words : List ℕ → List ℕ → List ℕ → Option Verb
three_words word a b =
    if bytes_eq word (codes "clock") then clock_line a b
    else if bytes_eq word (codes "client") then client_line a b
    else if bytes_eq word (codes "hang") then hang_line a b
    else if bytes_eq word (codes "up") then up_line a b
    else if bytes_eq word (codes "down") then down_line a b
    else if bytes_eq word (codes "pump") then pump_line a b
    else if bytes_eq word (codes "fail") then fail_line a b
    else if bytes_eq word (codes "crash") then crash_line a (kept_of b)
    else vbucket_words word a b

-- `bytes N C HEX`, by what HEX says
abbrev pub bytes_line : List ℕ → List ℕ → Option (List ℕ) → Option Verb
bytes_line node client bytes = option_and_then (λ n. option_and_then (λ c. option_map (λ x. verb.AtClient n c (client_verb.Bytes x)) bytes) (connection_of client)) (node_of node)

-- `pull N C K`
abbrev pub pull_line : List ℕ → List ℕ → List ℕ → Option Verb
pull_line node client frames =
    option_and_then (λ n. option_and_then (λ c. option_map (λ x. verb.AtClient n c (client_verb.Pull x)) (frames_of frames)) (connection_of client)) (node_of node)

-- `promote N V U`
abbrev pub promote_line : List ℕ → List ℕ → List ℕ → Option Verb
promote_line node vb uuid =
    option_and_then (λ n. option_and_then (λ v. option_map (λ x. verb.AtVb n v (vb_verb.Promote x)) (number_of uuid)) (vbucket_of vb)) (node_of node)

-- `vb N V replica`, by N and V
abbrev pub replica_line : List ℕ → List ℕ → Option Verb
replica_line node vb = option_and_then (λ n. option_map (λ v. verb.AtVb n v vb_verb.MakeReplica) (vbucket_of vb)) (node_of node)

-- `vb N V replica`, or `promote N V U`
abbrev pub vbucket_of_four : List ℕ → List ℕ → List ℕ → List ℕ → Option Verb
vbucket_of_four word node vb c =
    if bytes_eq word (codes "vb") && bytes_eq c (codes "replica") then replica_line node vb
    else if bytes_eq word (codes "promote") then promote_line node vb c
    else None

-- a line of four words that brings no bytes, by its first
abbrev pub plain_of_four : List ℕ → List ℕ → List ℕ → List ℕ → Option Verb
plain_of_four word a b c =
    if bytes_eq word (codes "stop") then stop_line a b (kept_of c)
    else if bytes_eq word (codes "crash") then crash_line a (filled_of b c)
    else if bytes_eq word (codes "pull") then pull_line a b c
    else vbucket_of_four word a b c

-- a line of four words, by its first
abbrev pub four_words : List ℕ → List ℕ → List ℕ → List ℕ → Option Verb
four_words word a b c = if bytes_eq word (codes "bytes") then bytes_line a b (hex_bytes_of c) else plain_of_four word a b c

-- `vb N V active U`
abbrev pub vb_line : List ℕ → List ℕ → List ℕ → List ℕ → List ℕ → Option Verb
vb_line word node vb role uuid =
    if bytes_eq word (codes "vb")
    then
    (if bytes_eq role (codes "active")
    then option_and_then (λ n. option_and_then (λ v. option_map (λ x. verb.AtVb n v (vb_verb.MakeActive x)) (number_of uuid)) (vbucket_of vb)) (node_of node)
    else None)
    else None

-- a line of five words, by its first
abbrev pub five_words : List ℕ → List ℕ → List ℕ → List ℕ → List ℕ → Option Verb
five_words word a b c d = if bytes_eq word (codes "stop") then stop_line a b (filled_of c d) else vb_line word a b c d

-- whether a link takes over, by its line's last word
abbrev pub link_mode : List ℕ → Option Bool
link_mode word = if bytes_eq word (codes "follow") then Some false else if bytes_eq word (codes "takeover") then Some true else None

-- the terms of a link: BUF, and whether it takes over
unfoldable pub terms_in : List ℕ → List ℕ → Option (ℕ × Bool)
terms_in buffer mode = option_and_then (λ b. option_map (λ t. (b, t)) (link_mode mode)) (buffer_of buffer)

-- `link L M N V BUF follow`, or `takeover`, by what its terms say
abbrev pub linked : List ℕ → List ℕ → List ℕ → List ℕ → Option (ℕ × Bool) → Option Verb
linked link producer node vb terms =
    option_and_then (λ l. option_and_then (λ m. option_and_then (λ n. option_and_then (λ v. option_map (λ t. verb.Link l m n v t.0 t.1) terms) (vbucket_of vb)) (node_of node)) (node_of producer)) (connection_of link)

-- a line of seven words
abbrev pub link_line : List ℕ → List ℕ → List ℕ → List ℕ → List ℕ → List ℕ → List ℕ → Option Verb
link_line word link producer node vb buffer mode = if bytes_eq word (codes "link") then linked link producer node vb (terms_in buffer mode) else None

-- what the words of a line say, by how many they are
abbrev pub counted_verb : List (List ℕ) → Option Verb
counted_verb (word ∷ a ∷ []) = two_words word a
counted_verb (word ∷ a ∷ b ∷ []) = three_words word a b
counted_verb (word ∷ a ∷ b ∷ c ∷ []) = four_words word a b c
counted_verb (word ∷ a ∷ b ∷ c ∷ d ∷ []) = five_words word a b c d
counted_verb (word ∷ a ∷ b ∷ c ∷ d ∷ e ∷ f ∷ []) = link_line word a b c d e f
counted_verb words = None

-- what the words of a line say: a line that starts a node has any number of them up to 66, and one that sets a chain 3 to 6
abbrev pub verb_of : List (List ℕ) → Option Verb
verb_of (word ∷ node ∷ more) =
    if bytes_eq word (codes "start") then start_line node (branches_of more)
    else if bytes_eq word (codes "chain") then chain_words node more
    else counted_verb (word ∷ node ∷ more)
verb_of words = None
