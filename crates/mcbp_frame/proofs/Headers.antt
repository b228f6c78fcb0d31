-- the 24 bytes of a header, one by one
use Rattle.std.proofs.Common.{◌≡◌, ℕ, List, [], ◌∷◌, ◌++◌, ◌∙◌, Bool, true, false, if◌then◌else◌, length, slice_index_or, ◌==◌}
use Rattle.std.specs.Int.{w16, w32, w64, to_be_bytes}
use Rattle.mcbp_frame.specs.declared.frame.Frame.{Frame}
use Rattle.mcbp_frame.specs.declared.frame.TheConstants.{FRAMED_REQUEST}
use Rattle.mcbp_frame.specs.Frames.{body_size}
use Rattle.mcbp_frame.specs.Spelling.{lengths, header_spelling}

-- an array's first two, four or eight bytes, and what follows
abbrev pub two : List ℕ → List ℕ → List ℕ
two xs rest = slice_index_or xs 0 0 ∷ slice_index_or xs 1 0 ∷ rest

abbrev pub four : List ℕ → List ℕ → List ℕ
four xs rest = two xs (slice_index_or xs 2 0 ∷ slice_index_or xs 3 0 ∷ rest)

abbrev pub eight : List ℕ → List ℕ → List ℕ
eight xs rest = four xs (slice_index_or xs 4 0 ∷ slice_index_or xs 5 0 ∷ slice_index_or xs 6 0 ∷ slice_index_or xs 7 0 ∷ rest)

-- the bytes behind the lengths
abbrev behind : (extras datatype said size opaque cas : ℕ) → List ℕ
behind extras datatype said size opaque cas =
    extras ∷ datatype ∷ (two (to_be_bytes w16 said) (four (to_be_bytes w32 size) (four (to_be_bytes w32 opaque) (eight (to_be_bytes w64 cas) []))))

-- either form of the lengths has two bytes
row : (framed : Bool) (magic opcode framing key extras datatype said size opaque cas : ℕ) (lens : List ℕ)
    → lens ≡ (if framed then framing ∷ key ∷ [] else to_be_bytes w16 key)
    → magic ∷ opcode ∷ two lens (behind extras datatype said size opaque cas)
    ≡ magic ∷ opcode ∷ [] ++ (if framed then framing ∷ key ∷ [] else to_be_bytes w16 key) ++ extras ∷ datatype ∷ [] ++ to_be_bytes w16 said
    ++ to_be_bytes w32 size ++ to_be_bytes w32 opaque ++ to_be_bytes w64 cas
row true magic opcode framing key extras datatype said size opaque cas lens is = λ i. magic ∷ opcode ∷ two (is i) (behind extras datatype said size opaque cas)
row false magic opcode framing key extras datatype said size opaque cas lens is = λ i. magic ∷ opcode ∷ two (is i) (behind extras datatype said size opaque cas)

pub header_is : (f : Frame) (extras : ℕ) (lens said size opaque cas : List ℕ) → extras ≡ length f.extras → lens ≡ lengths f
    → said ≡ to_be_bytes w16 f.vb_or_status → size ≡ to_be_bytes w32 (body_size f) → opaque ≡ to_be_bytes w32 f.opaque
    → cas ≡ to_be_bytes w64 f.cas
    → f.magic ∷ f.opcode ∷ two lens (extras ∷ f.datatype ∷ two said (four size (four opaque (eight cas [])))) ≡ header_spelling f
header_is f extras lens said size opaque cas e l s b o c =
    (λ i. f.magic ∷ f.opcode ∷ two lens (e i ∷ f.datatype ∷ two (s i) (four (b i) (four (o i) (eight (c i) [])))))
    ∙ row (f.magic == FRAMED_REQUEST) f.magic f.opcode (length f.framing) (length f.key) (length f.extras) f.datatype f.vb_or_status (body_size f) f.opaque f.cas lens l
