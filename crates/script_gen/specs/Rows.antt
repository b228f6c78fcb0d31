-- generated scripts in numbers
use Rattle.std.specs.Prelude.{◌≡◌, ℕ, ◌+◌, ◌*◌, ◌-◌, ◌^◌, true, false, List, [], ◌∷◌, length, take, drop, Some, codes}
use Rattle.std.specs.List.{flat_map, slice_get}
use Rattle.script_text.specs.Lines.{ended}
use Rattle.script_text.specs.declared.verb.Verb.{Verb}
use Rattle.script_text.specs.declared.verb.Verb.TheVariants as verb
use Rattle.script_text.specs.declared.verb.VbVerb.TheVariants as vb_verb
use Rattle.script_text.specs.declared.verb.ClientVerb.TheVariants as client_verb
use Rattle.script_text.specs.declared.verb.LinkVerb.TheVariants as link_verb
use Rattle.script_text.specs.declared.verb.ScriptLine.{ScriptLine}
use Rattle.script_gen.specs.Writes.{stepped, is_removal, key_of_word, write_verb}
use Rattle.script_gen.specs.Scripts.{gen_script}
use Rattle.script_gen.specs.Texts.{word_at, write_line, gen_text}

-- a line of this number
abbrev pub line : ℕ → Verb → ScriptLine
line number v = record { line = number; verb = v }

-- the first step from 0: the write stores, and its key is k123
pub record FirstStep : Type 0 where
  pub word : stepped 0 ≡ 1442695040888963407
  pub bits : stepped 0 ≡ 0x14057b7ef767814f
  pub stores : is_removal (stepped 0) ≡ false
  pub key : key_of_word (stepped 0) ≡ codes "k123"
  pub wraps : stepped (2 ^ 64 - 1) ≡ 13525302890751722018

-- a write by the edges of its bits: 33 to 35 say what it does, and the bits from 40 on its key
pub record Edges : Type 0 where
  pub none : is_removal 0 ≡ true
  pub below : is_removal (2 ^ 33 - 1) ≡ true
  pub low : is_removal (2 ^ 33) ≡ false
  pub high : is_removal (2 ^ 36 - 1) ≡ false
  pub above : is_removal (2 ^ 36) ≡ true
  pub first_key : key_of_word (2 ^ 40 - 1) ≡ codes "k0"
  pub second_key : key_of_word (2 ^ 40) ≡ codes "k1"
  pub last_key : key_of_word (999 * 2 ^ 40) ≡ codes "k999"
  pub first_again : key_of_word (1000 * 2 ^ 40) ≡ codes "k0"

-- the seventh write of seed 7 takes a document away: as a verb, and as a line
pub record Removal : Type 0 where
  pub word : word_at 7 7 ≡ 7431924344364899904
  pub removes : is_removal (word_at 7 7) ≡ true
  pub sent : write_verb 7 (word_at 7 7) ≡ verb.AtClient 0 1 (client_verb.Bytes (
      0x80 ∷ 0x04 ∷ 0x00 ∷ 0x04 ∷ 0x00 ∷ 0x00 ∷ 0x00 ∷ 0x00 ∷ 0x00 ∷ 0x00 ∷ 0x00 ∷ 0x04 ∷ 0x00 ∷ 0x00 ∷ 0x00 ∷ 0x07
      ∷ 0x00 ∷ 0x00 ∷ 0x00 ∷ 0x00 ∷ 0x00 ∷ 0x00 ∷ 0x00 ∷ 0x00 ∷ 0x6b ∷ 0x32 ∷ 0x39 ∷ 0x35 ∷ []))
  pub line : write_line 7 (word_at 7 7) ≡ codes "bytes 0 1 8004000400000000000000040000000700000000000000006b323935"

-- the request of the one write of seed 0
abbrev pub first_request : List ℕ
first_request =
    0x80 ∷ 0x01 ∷ 0x00 ∷ 0x04 ∷ 0x08 ∷ 0x00 ∷ 0x00 ∷ 0x00 ∷ 0x00 ∷ 0x00 ∷ 0x00 ∷ 0x0d ∷ 0x00 ∷ 0x00 ∷ 0x00 ∷ 0x01
    ∷ 0x00 ∷ 0x00 ∷ 0x00 ∷ 0x00 ∷ 0x00 ∷ 0x00 ∷ 0x00 ∷ 0x00 ∷ 0x00 ∷ 0x00 ∷ 0x00 ∷ 0x00 ∷ 0x00 ∷ 0x00 ∷ 0x00 ∷ 0x00
    ∷ 0x6b ∷ 0x31 ∷ 0x32 ∷ 0x33 ∷ 0x31 ∷ []

-- the script of seed 0 with one write, verb by verb
abbrev pub one_write : List ScriptLine
one_write =
    line 1 (verb.Node 0)
    ∷ line 2 (verb.Node 1)
    ∷ line 3 (verb.AtVb 0 0 (vb_verb.MakeActive 1))
    ∷ line 4 (verb.AtVb 1 0 vb_verb.MakeReplica)
    ∷ line 5 (verb.AtClient 0 1 client_verb.Open)
    ∷ line 6 (verb.Link 1 0 1 0 1000000 false)
    ∷ line 7 (verb.AtLink 1 (link_verb.Up 1000000000))
    ∷ line 8 (verb.AtClient 0 1 (client_verb.Bytes first_request))
    ∷ line 9 (verb.AtLink 1 (link_verb.Pump 1000000))
    ∷ line 10 (verb.AtLink 1 (link_verb.Down 1000000000))
    ∷ line 11 (verb.AtLink 1 (link_verb.Up 1000000000))
    ∷ line 12 (verb.AtVb 0 0 vb_verb.Take)
    ∷ line 13 (verb.AtVb 0 0 vb_verb.Save)
    ∷ line 14 (verb.AtVb 0 0 vb_verb.Done)
    ∷ line 15 (verb.AtVb 0 0 vb_verb.Show)
    ∷ line 16 (verb.AtVb 1 0 vb_verb.Show)
    ∷ []

-- and line by line
abbrev pub one_write_lines : List (List ℕ)
one_write_lines =
    codes "node 0"
    ∷ codes "node 1"
    ∷ codes "vb 0 0 active 1"
    ∷ codes "vb 1 0 replica"
    ∷ codes "client 0 1"
    ∷ codes "link 1 0 1 0 1000000 follow"
    ∷ codes "up 1 1000000000"
    ∷ codes "bytes 0 1 80010004080000000000000d00000001000000000000000000000000000000006b31323331"
    ∷ codes "pump 1 1000000"
    ∷ codes "down 1 1000000000"
    ∷ codes "up 1 1000000000"
    ∷ codes "take 0 0"
    ∷ codes "save 0 0"
    ∷ codes "done 0 0"
    ∷ codes "show 0 0"
    ∷ codes "show 1 0"
    ∷ []

-- one write of seed 0, as verbs and as text
pub record OneWrite : Type 0 where
  pub verbs : gen_script 0 1 ≡ one_write
  pub text : gen_text 0 1 ≡ flat_map ended one_write_lines

-- the six lines behind some writes, from this number on
abbrev pub six : ℕ → List ScriptLine
six n =
    line n (verb.AtLink 1 (link_verb.Pump 1000000))
    ∷ line (n + 1) (verb.AtLink 1 (link_verb.Down 1000000000))
    ∷ line (n + 2) (verb.AtLink 1 (link_verb.Up 1000000000))
    ∷ line (n + 3) (verb.AtVb 0 0 vb_verb.Take)
    ∷ line (n + 4) (verb.AtVb 0 0 vb_verb.Save)
    ∷ line (n + 5) (verb.AtVb 0 0 vb_verb.Done)
    ∷ []

-- with 64 writes six lines stand behind the last alone, and with 65 behind the 64th and behind the last
pub record SixLines : Type 0 where
  pub many : length (gen_script 7 64) ≡ 79
  pub sixth : slice_get (gen_script 7 64) 70 ≡ Some (line 71 (write_verb 64 (word_at 7 64)))
  pub whole : take 6 (drop 71 (gen_script 7 64)) ≡ six 72
  pub last : drop 77 (gen_script 7 64) ≡ line 78 (verb.AtVb 0 0 vb_verb.Show) ∷ line 79 (verb.AtVb 1 0 vb_verb.Show) ∷ []
  pub more : length (gen_script 7 65) ≡ 86
  pub first : take 6 (drop 71 (gen_script 7 65)) ≡ six 72
  pub next : slice_get (gen_script 7 65) 77 ≡ Some (line 78 (write_verb 65 (word_at 7 65)))
  pub second : take 6 (drop 78 (gen_script 7 65)) ≡ six 79
  pub none : length (gen_script 7 0) ≡ 9
