-- the words that tell of durable writes and of chains, of what is saved, of nodes that stop, and of windows
use Rattle.std.specs.Prelude.{◌≡◌, ◌↔◌, ℕ, Bool, true, false, List, [], ◌∷◌, ◌++◌, Option, Some, None, codes, decimal}
use Rattle.vb_types.specs.declared.doc.Doc.{Doc}
use Rattle.vb_types.specs.declared.change.Act.TheVariants as act
use Rattle.vb_types.specs.declared.change.Level.{Level}
use Rattle.vb_types.specs.declared.change.Level.TheVariants as level
use Rattle.vb_events.specs.declared.event.Answer.TheVariants as answer
use Rattle.vb_events.specs.declared.event.Cause.{Cause}
use Rattle.vb_events.specs.declared.event.Cause.TheVariants as cause
use Rattle.vb_events.specs.declared.event.EndReason.{EndReason}
use Rattle.vb_events.specs.declared.event.EndReason.TheVariants as reason
use Rattle.vb_events.specs.declared.event.Event.TheVariants as event
use Rattle.vb_events.specs.declared.event.ItemAct.{ItemAct}
use Rattle.vb_events.specs.declared.event.ItemAct.TheVariants as sent
use Rattle.vb_events.specs.declared.event.StreamName.TheVariants as stream
use Rattle.vb_events.specs.declared.event.Why.{Why}
use Rattle.vb_events.specs.declared.event.Why.TheVariants as why
use Rattle.vb_types.specs.declared.role.Role.{Role}
use Rattle.vb_types.specs.declared.role.Role.TheVariants as role
use Rattle.vb_disk.specs.declared.made.Outcome.TheVariants as outcome
use Rattle.script_text.specs.declared.verb.Verb.{Verb}
use Rattle.script_text.specs.declared.verb.Verb.TheVariants as verb
use Rattle.script_text.specs.declared.verb.VbVerb.TheVariants as vb_verb
use Rattle.script_text.specs.declared.verb.NodeVerb.TheVariants as node_verb
use Rattle.script_text.specs.declared.verb.LinkVerb.TheVariants as link_verb
use Rattle.script_text.specs.declared.verb.ClientVerb.TheVariants as client_verb
use Rattle.script_text.specs.Grammar.{verb_of}
use Rattle.script_text.specs.Lines.{words_of}
use Rattle.script_text.specs.Transcript.{act_text, answer_text, cause_text, doc_text, event_text, flag_text, hex_text, level_text, reason_text, role_text, sent_text, spaced, why_text}

-- what a line says, letter by letter
abbrev pub verb_by_letters : List ℕ → Option Verb
verb_by_letters line = verb_of (words_of line)

-- this one is told by this word, and no other is
abbrev pub IsWordOf : (A : Type 0) → (A → List ℕ) → A → List ℕ → Type 0
IsWordOf A text a word = (b : A) → (text b ≡ word) ↔ (b ≡ a)

-- the levels are the numbers 1, 2 and 3
pub record LevelsInWords : Type 0 where
  pub majority : IsWordOf Level level_text level.Majority (codes "1")
  pub active : IsWordOf Level level_text level.MajorityPersistActive (codes "2")
  pub persist : IsWordOf Level level_text level.PersistMajority (codes "3")

-- the acts of a durable write as an item tells them; whether it is a removal; and the role before a vBucket is active
pub record ActsInWords : Type 0 where
  pub prepare : IsWordOf ItemAct sent_text sent.Prepare (codes "prepare")
  pub commit : IsWordOf ItemAct sent_text sent.Commit (codes "commit")
  pub abort : IsWordOf ItemAct sent_text sent.Abort (codes "abort")
  pub deleted : IsWordOf Bool flag_text true (codes "1")
  pub kept : IsWordOf Bool flag_text false (codes "0")
  pub pending : IsWordOf Role role_text role.Pending (codes "pending")

-- the same acts where all of a change is told, and a prepare that waits
pub record DurableWords : Type 0 where
  pub prepare : (key : List ℕ) (level : Level) (doc : Doc) (deleted : Bool)
      → act_text key (act.Prepare level doc deleted) ≡ spaced (codes "prepare" ∷ hex_text key ∷ doc_text doc ∷ level_text level ∷ flag_text deleted ∷ [])
  pub commit : (key : List ℕ) (prepared : ℕ) (doc : Doc) (deleted : Bool)
      → act_text key (act.Commit prepared doc deleted) ≡ spaced (codes "commit" ∷ hex_text key ∷ doc_text doc ∷ decimal prepared ∷ flag_text deleted ∷ [])
  pub abort : (key : List ℕ) (prepared : ℕ) → act_text key (act.Abort prepared) ≡ spaced (codes "abort" ∷ hex_text key ∷ decimal prepared ∷ [])
  pub waits : (key : List ℕ) (seq : ℕ) (level : Level) → event_text (event.Prepared key seq level) ≡ spaced (codes "prep" ∷ hex_text key ∷ decimal seq ∷ level_text level ∷ [])

-- why a line was refused that has to do with a chain
abbrev pub ChainsInWords : Type 0
ChainsInWords = IsWordOf Cause cause_text cause.ChainBad (codes "chain-bad")

-- an acknowledgement that a replica wrote, and one that the active vBucket counted, word by word
pub record AcknowledgementWords : Type 0 where
  pub written : (link node vb seq saved : ℕ)
      → event_text (event.Acknowledged (stream.Link link) node vb seq saved)
      ≡ codes "ack L" ++ decimal link ++ 32 ∷ spaced (decimal node ∷ decimal vb ∷ decimal seq ∷ decimal saved ∷ [])
  pub counted : (link node vb member seq : ℕ)
      → event_text (event.Counted (stream.Link link) node vb member seq)
      ≡ codes "acked L" ++ decimal link ++ 32 ∷ spaced (decimal node ∷ decimal vb ∷ decimal member ∷ decimal seq ∷ [])

-- lines of chains and deadlines, at their limits: which members a chain may have is no matter of the grammar
pub record ChainsAreRead : Type 0 where
  pub alone : verb_by_letters (codes "chain 15 1023") ≡ Some (verb.AtVb 15 1023 (vb_verb.Chain []))
  pub one_other : verb_by_letters (codes "chain 0 0 15") ≡ Some (verb.AtVb 0 0 (vb_verb.Chain (Some 15 ∷ [])))
  pub not_set : verb_by_letters (codes "chain 1 2 -") ≡ Some (verb.AtVb 1 2 (vb_verb.Chain (None ∷ [])))
  pub most : verb_by_letters (codes "chain 1 2 1 - 1") ≡ Some (verb.AtVb 1 2 (vb_verb.Chain (Some 1 ∷ None ∷ Some 1 ∷ [])))
  pub tick : verb_by_letters (codes "tick 15 1023") ≡ Some (verb.AtVb 15 1023 vb_verb.Tick)

-- lines beside them that say nothing
pub record ChainsAreRefused : Type 0 where
  pub too_many : verb_by_letters (codes "chain 0 0 1 2 3 4") ≡ None
  pub unset_too_many : verb_by_letters (codes "chain 0 0 - - - -") ≡ None
  pub no_vb : verb_by_letters (codes "chain 0") ≡ None
  pub vb : verb_by_letters (codes "chain 0 1024 1") ≡ None
  pub node : verb_by_letters (codes "chain 16 0 1") ≡ None
  pub member : verb_by_letters (codes "chain 0 0 16") ≡ None
  pub dashes : verb_by_letters (codes "chain 0 0 --") ≡ None
  pub last_member : verb_by_letters (codes "chain 0 0 1 - x") ≡ None
  pub zeros : verb_by_letters (codes "chain 0 0 01") ≡ None
  pub own_dash : verb_by_letters (codes "chain - 0 1") ≡ None
  pub tick_alone : verb_by_letters (codes "tick 0") ≡ None
  pub tick_more : verb_by_letters (codes "tick 0 0 0") ≡ None
  pub tick_vb : verb_by_letters (codes "tick 0 1024") ≡ None

-- why a line was refused that has to do with what is saved; why a link ended; and why no more frames were put
pub record SavingInWords : Type 0 where
  pub batch_out : IsWordOf Cause cause_text cause.BatchOut (codes "batch-out")
  pub nothing_taken : IsWordOf Cause cause_text cause.NothingTaken (codes "nothing-taken")
  pub closed : IsWordOf Cause cause_text cause.Closed (codes "closed")
  pub disk : IsWordOf Cause cause_text cause.Disk (codes "disk")
  pub ended : IsWordOf EndReason reason_text reason.Disk (codes "disk")
  pub waits : IsWordOf Why why_text why.WaitSaved (codes "wait-saved")
  pub unread : IsWordOf Why why_text why.Disk (codes "disk")

-- a batch that is taken, the numbers of a vBucket, a link that ended as the disk failed, and a pull that waits or whose journal can't be read, word by word
pub record SavingWords : Type 0 where
  pub batch : (node vb ss se at count : ℕ)
      → event_text (event.Batch node vb ss se at count) ≡ spaced (codes "batch" ∷ decimal node ∷ decimal vb ∷ decimal ss ∷ decimal se ∷ decimal at ∷ decimal count ∷ [])
  pub stat : (node vb windows items cursors saved high : ℕ)
      → event_text (event.Stat node vb windows items cursors saved high)
      ≡ spaced (codes "stat" ∷ decimal node ∷ decimal vb ∷ decimal windows ∷ decimal items ∷ decimal cursors ∷ decimal saved ∷ decimal high ∷ [])
  pub ended : (link : ℕ) → event_text (event.Ended link reason.Disk) ≡ codes "end L" ++ decimal link ++ codes " disk"
  pub waits : (frames : ℕ) → answer_text (answer.Pulled frames why.WaitSaved) ≡ codes "ok " ++ decimal frames ++ codes " wait-saved"
  pub unread : (frames : ℕ) → answer_text (answer.Pulled frames why.Disk) ≡ codes "ok " ++ decimal frames ++ codes " disk"

-- why a line was refused that has to do with nodes that stop
pub record StopsInWords : Type 0 where
  pub node_up : IsWordOf Cause cause_text cause.NodeUp (codes "node-up")
  pub node_down : IsWordOf Cause cause_text cause.NodeDown (codes "node-down")
  pub ids_short : IsWordOf Cause cause_text cause.IdsShort (codes "ids-short")
  pub stopped : IsWordOf Cause cause_text cause.Stopped (codes "stopped")

-- a device call that failed, and a node that stopped, word by word
pub record StopWords : Type 0 where
  pub failed : (node : ℕ) → event_text (event.CallFailed node) ≡ codes "failed " ++ decimal node
  pub stopped : (node : ℕ) → event_text (event.NodeStopped node) ≡ codes "stopped " ++ decimal node

-- lines of nodes that stop and start, at their limits
pub record StopsAreRead : Type 0 where
  pub stop_old : verb_by_letters (codes "stop 15 1000000000 old") ≡ Some (verb.AtNode 15 (node_verb.Stop 1000000000 outcome.Old))
  pub stop_new : verb_by_letters (codes "stop 0 0 new") ≡ Some (verb.AtNode 0 (node_verb.Stop 0 outcome.New))
  pub stop_fill : verb_by_letters (codes "stop 3 7 fill 255") ≡ Some (verb.AtNode 3 (node_verb.Stop 7 (outcome.Fill 255)))
  pub fail_none : verb_by_letters (codes "fail 0 0") ≡ Some (verb.AtNode 0 (node_verb.Fail 0))
  pub fail : verb_by_letters (codes "fail 3 1000000000") ≡ Some (verb.AtNode 3 (node_verb.Fail 1000000000))
  pub crash_old : verb_by_letters (codes "crash 15 old") ≡ Some (verb.AtNode 15 (node_verb.Crash outcome.Old))
  pub crash_new : verb_by_letters (codes "crash 0 new") ≡ Some (verb.AtNode 0 (node_verb.Crash outcome.New))
  pub crash_fill : verb_by_letters (codes "crash 1 fill 0") ≡ Some (verb.AtNode 1 (node_verb.Crash (outcome.Fill 0)))
  pub start : verb_by_letters (codes "start 15") ≡ Some (verb.AtNode 15 (node_verb.Start []))
  pub start_again : verb_by_letters (codes "start 2 18446744073709551615 0") ≡ Some (verb.AtNode 2 (node_verb.Start (18446744073709551615 ∷ 0 ∷ [])))

-- lines beside them that say nothing
pub record StopsAreRefused : Type 0 where
  pub call : verb_by_letters (codes "stop 0 1000000001 old") ≡ None
  pub failing_call : verb_by_letters (codes "fail 0 1000000001") ≡ None
  pub no_outcome : verb_by_letters (codes "stop 0 1") ≡ None
  pub byte : verb_by_letters (codes "crash 0 fill 256") ≡ None
  pub no_byte : verb_by_letters (codes "crash 0 fill") ≡ None
  pub zeros : verb_by_letters (codes "stop 0 1 fill 00") ≡ None
  pub two_words : verb_by_letters (codes "crash 0 old 1") ≡ None
  pub other_word : verb_by_letters (codes "crash 0 olds") ≡ None
  pub node : verb_by_letters (codes "start 16") ≡ None
  pub no_node : verb_by_letters (codes "start") ≡ None
  pub wide : verb_by_letters (codes "start 0 18446744073709551616") ≡ None

-- why no more frames were put where the window is shut, and a pull that stops there, word by word
pub record WindowWords : Type 0 where
  pub full : IsWordOf Why why_text why.Full (codes "full")
  pub stops : (frames : ℕ) → answer_text (answer.Pulled frames why.Full) ≡ codes "ok " ++ decimal frames ++ codes " full"

-- why no more frames were put where a state is not answered yet, a pull that stops there, and a state that is put, word by word
pub record StateWords : Type 0 where
  pub waits : IsWordOf Why why_text why.WaitState (codes "wait-state")
  pub stops : (frames : ℕ) → answer_text (answer.Pulled frames why.WaitState) ≡ codes "ok " ++ decimal frames ++ codes " wait-state"
  pub link : (link : ℕ) (role : Role) → event_text (event.Stated (stream.Link link) role) ≡ codes "state L" ++ decimal link ++ 32 ∷ role_text role
  pub client : (node client : ℕ) (role : Role)
      → event_text (event.Stated (stream.Client node client) role) ≡ codes "state C" ++ decimal node ++ 46 ∷ (decimal client ++ 32 ∷ role_text role)

-- lines of links, that follow or take over, with no buffer, with some, and at the limits
pub record LinksAreRead : Type 0 where
  pub none : verb_by_letters (codes "link 1 2 3 4 0 follow") ≡ Some (verb.Link 1 2 3 4 0 false)
  pub some : verb_by_letters (codes "link 1 2 3 4 10 follow") ≡ Some (verb.Link 1 2 3 4 10 false)
  pub most : verb_by_letters (codes "link 999 15 15 1023 4294967295 follow") ≡ Some (verb.Link 999 15 15 1023 4294967295 false)
  pub least_over : verb_by_letters (codes "link 0 0 0 0 0 takeover") ≡ Some (verb.Link 0 0 0 0 0 true)
  pub some_over : verb_by_letters (codes "link 1 2 3 4 10 takeover") ≡ Some (verb.Link 1 2 3 4 10 true)
  pub most_over : verb_by_letters (codes "link 999 15 15 1023 4294967295 takeover") ≡ Some (verb.Link 999 15 15 1023 4294967295 true)

-- lines beside them that say nothing
pub record LinksAreRefused : Type 0 where
  pub wide : verb_by_letters (codes "link 1 2 3 4 4294967296 follow") ≡ None
  pub zeros : verb_by_letters (codes "link 1 2 3 4 007 follow") ≡ None
  pub two_zeros : verb_by_letters (codes "link 1 2 3 4 00 follow") ≡ None
  pub sign : verb_by_letters (codes "link 1 2 3 4 +5 follow") ≡ None
  pub empty : verb_by_letters (codes "link 1 2 3 4  follow") ≡ None
  pub dash : verb_by_letters (codes "link 1 2 3 4 - follow") ≡ None
  pub no_buffer : verb_by_letters (codes "link 1 2 3 4 follow") ≡ None
  pub no_mode : verb_by_letters (codes "link 1 2 3 4 0") ≡ None
  pub other_mode : verb_by_letters (codes "link 1 2 3 4 0 follows") ≡ None
  pub more : verb_by_letters (codes "link 1 2 3 4 0 follow 0") ≡ None
  pub link : verb_by_letters (codes "link 1000 2 3 4 0 follow") ≡ None
  pub producer : verb_by_letters (codes "link 1 16 3 4 0 follow") ≡ None
  pub node : verb_by_letters (codes "link 1 2 16 4 0 follow") ≡ None
  pub vb : verb_by_letters (codes "link 1 2 3 1024 0 follow") ≡ None
  pub wide_over : verb_by_letters (codes "link 1 2 3 4 4294967296 takeover") ≡ None
  pub great_letter : verb_by_letters (codes "link 1 2 3 4 0 Takeover") ≡ None
  pub with_digit : verb_by_letters (codes "link 1 2 3 4 0 takeover2") ≡ None
  pub with_letter : verb_by_letters (codes "link 1 2 3 4 0 takeovers") ≡ None
  pub short : verb_by_letters (codes "link 1 2 3 4 0 takeove") ≡ None
  pub both_modes : verb_by_letters (codes "link 1 2 3 4 0 follow takeover") ≡ None
  pub more_over : verb_by_letters (codes "link 1 2 3 4 0 takeover 0") ≡ None
  pub no_buffer_over : verb_by_letters (codes "link 1 2 3 4 takeover") ≡ None
  pub space_over : verb_by_letters (codes "link 1 2 3 4 0 takeover ") ≡ None
  pub other_word : verb_by_letters (codes "links 1 2 3 4 0 takeover") ≡ None

-- lines that ask for stream frames, of a client's connection and of a link, at their limits
pub record PullsAreRead : Type 0 where
  pub pull : verb_by_letters (codes "pull 0 1 5") ≡ Some (verb.AtClient 0 1 (client_verb.Pull 5))
  pub least : verb_by_letters (codes "pull 0 0 1") ≡ Some (verb.AtClient 0 0 (client_verb.Pull 1))
  pub most : verb_by_letters (codes "pull 15 999 1000000") ≡ Some (verb.AtClient 15 999 (client_verb.Pull 1000000))
  pub pump : verb_by_letters (codes "pump 1 5") ≡ Some (verb.AtLink 1 (link_verb.Pump 5))
  pub pump_least : verb_by_letters (codes "pump 0 1") ≡ Some (verb.AtLink 0 (link_verb.Pump 1))
  pub pump_most : verb_by_letters (codes "pump 999 1000000") ≡ Some (verb.AtLink 999 (link_verb.Pump 1000000))

-- lines beside them that say nothing
pub record PullsAreRefused : Type 0 where
  pub none : verb_by_letters (codes "pull 0 1 0") ≡ None
  pub too_many : verb_by_letters (codes "pull 0 1 1000001") ≡ None
  pub zeros : verb_by_letters (codes "pull 0 1 05") ≡ None
  pub empty : verb_by_letters (codes "pull 0 1 ") ≡ None
  pub no_count : verb_by_letters (codes "pull 0 1") ≡ None
  pub no_client : verb_by_letters (codes "pull 5") ≡ None
  pub two_counts : verb_by_letters (codes "pull 0 1 5 5") ≡ None
  pub node : verb_by_letters (codes "pull 16 1 5") ≡ None
  pub client : verb_by_letters (codes "pull 0 1000 5") ≡ None
  pub dotted : verb_by_letters (codes "pull 0.1 5") ≡ None
  pub other_word : verb_by_letters (codes "pulls 0 1 5") ≡ None
  pub pump_none : verb_by_letters (codes "pump 1 0") ≡ None
  pub pump_too_many : verb_by_letters (codes "pump 1 1000001") ≡ None
  pub pump_client : verb_by_letters (codes "pump 0 1 5") ≡ None

-- lines that trim a vBucket and that drop a link's cursor, at their limits
pub record TrimsAreRead : Type 0 where
  pub trim : verb_by_letters (codes "trim 1 2") ≡ Some (verb.AtVb 1 2 vb_verb.Trim)
  pub trim_least : verb_by_letters (codes "trim 0 0") ≡ Some (verb.AtVb 0 0 vb_verb.Trim)
  pub trim_most : verb_by_letters (codes "trim 15 1023") ≡ Some (verb.AtVb 15 1023 vb_verb.Trim)
  pub drop : verb_by_letters (codes "drop 1") ≡ Some (verb.AtLink 1 link_verb.Drop)
  pub drop_least : verb_by_letters (codes "drop 0") ≡ Some (verb.AtLink 0 link_verb.Drop)
  pub drop_most : verb_by_letters (codes "drop 999") ≡ Some (verb.AtLink 999 link_verb.Drop)

-- lines beside them that say nothing
pub record TrimsAreRefused : Type 0 where
  pub no_numbers : verb_by_letters (codes "trim") ≡ None
  pub no_vb : verb_by_letters (codes "trim 0") ≡ None
  pub more : verb_by_letters (codes "trim 0 0 1") ≡ None
  pub node : verb_by_letters (codes "trim 16 0") ≡ None
  pub vb : verb_by_letters (codes "trim 0 1024") ≡ None
  pub zeros : verb_by_letters (codes "trim 0 00") ≡ None
  pub space : verb_by_letters (codes "trim 0 0 ") ≡ None
  pub great_letter : verb_by_letters (codes "Trim 0 0") ≡ None
  pub other_word : verb_by_letters (codes "trims 0 0") ≡ None
  pub no_link : verb_by_letters (codes "drop") ≡ None
  pub drop_more : verb_by_letters (codes "drop 1 1") ≡ None
  pub drop_link : verb_by_letters (codes "drop 1000") ≡ None
  pub drop_zeros : verb_by_letters (codes "drop 01") ≡ None
  pub drop_space : verb_by_letters (codes "drop 1 ") ≡ None
  pub drop_client : verb_by_letters (codes "drop 0.1") ≡ None
  pub drop_great_letter : verb_by_letters (codes "Drop 1") ≡ None
  pub drop_other_word : verb_by_letters (codes "drops 1") ≡ None
