-- lines of vBuckets that become active
use Rattle.std.specs.Prelude.{◌≡◌, ◌∷◌, ◌++◌, ◌&&◌, ◌||◌, ◌⊎◌}
use Rattle.transcript_law.proofs.Words.{ℕ, Bool, true, false, List, [], refl, sym, inl, last_seq, list_any, not, and_parts, Option, Some, None, Chronicle, Event, Role}
use Rattle.transcript_law.proofs.verbs.Tellings.{same_place}
use Rattle.transcript_law.specs.Asked.{turns_in}
use Rattle.transcript_law.specs.Chronicles.{alone, heir_in, is_rise}
use Rattle.transcript_law.specs.Heirs.{IsHeir, IsRisen}
use Rattle.transcript_law.specs.Takeovers.{all_made}
use Rattle.transcript_law.specs.Tellings.{are_all}

-- a line tells of no vBucket that is active
abbrev pub is_level : Event → Bool
is_level line = not (is_rise line)

-- nor do lines of which none does
pub none_rise : (lines : List Event) → are_all is_level lines ≡ true → list_any is_rise lines ≡ false
none_rise [] a = refl
none_rise (line ∷ lines) a = let p = and_parts (not (is_rise line)) (are_all is_level lines) a in λ i. calm (is_rise line) p.0 i || none_rise lines p.1 i
  where
    calm : (b : Bool) → not b ≡ true → b ≡ false
    calm true e = cc
    calm false e = refl

-- by them no vBucket takes its branch over
pub no_heir : (lines : List Event) → list_any is_rise lines ≡ false → heir_in lines ≡ None
no_heir [] e = refl
no_heir (Event.Role n v Role.Active ∷ lines) e = cc
no_heir (line ∷ lines) e = no_heir lines e

-- and each that becomes active makes its branch
pub made_level : (before : Option Event) (lines : List Event) → list_any is_rise lines ≡ false → all_made before lines ≡ true
made_level before [] e = refl
made_level before (Event.Role n v Role.Active ∷ lines) e = cc
made_level before (line ∷ lines) e = made_level (Some line) lines e

-- so does one whose branch stands directly in front, among such lines
pub made_among : (n v uuid : ℕ) (parent : Option ℕ) (fork high : ℕ) (before : Option Event) (front behind : List Event) → list_any is_rise front ≡ false → list_any is_rise behind ≡ false
    → all_made before (front ++ Event.Branch n v uuid parent fork high ∷ Event.Role n v Role.Active ∷ behind) ≡ true
made_among n v uuid parent fork high before [] behind f b = λ i. same_place n v i && made_level (Some (Event.Role n v Role.Active)) behind b i
made_among n v uuid parent fork high before (Event.Role m u Role.Active ∷ front) behind f b = cc
made_among n v uuid parent fork high before (line ∷ front) behind f b = made_among n v uuid parent fork high (Some line) front behind f b

-- lines that tell of no role, and of one in which no writes are taken
pub level_turns : (lines : List Event) → turns_in lines ≡ [] → list_any is_rise lines ≡ false
level_turns [] e = refl
level_turns (Event.Branch n v uuid parent fork high ∷ lines) e = cc
level_turns (Event.Role n v role ∷ lines) e = cc
level_turns (line ∷ lines) e = level_turns lines e

pub level_turn : (n v : ℕ) (said : Role) (lines : List Event) → (said ≡ Role.Active → ⊥) → turns_in lines ≡ Event.Role n v said ∷ [] → list_any is_rise lines ≡ false
level_turn n v said [] rests e = refl
level_turn n v said (Event.Branch m u uuid parent fork high ∷ lines) rests e = cc
level_turn n v said (Event.Role m u Role.Active ∷ lines) rests e = let same : Role.Active ≡ said = cc in absurd (rests (sym same))
level_turn n v said (Event.Role m u role ∷ lines) rests e = let none : turns_in lines ≡ [] = cc in level_turns lines none
level_turn n v said (line ∷ lines) rests e = level_turn n v said lines rests e

-- a vBucket that made the branch that it is on may become active
pub made_here : (r : Chronicle) (n v uuid : ℕ) → r.writer_of uuid ≡ Some (n, v) → r.branch_at n v ≡ Some uuid → r.counts_at n v ≡ alone (last_seq 0 (r.held n v)) → IsRisen r n v ⊎ IsHeir r n v
made_here r n v uuid wrote on anew = inl (record { uuid = uuid; writer = record { made_or_took = wrote; on_branch = on }; anew = anew })
