-- the features that a client asks for
use Rattle.std.specs.Prelude.{ℕ, ◌==◌, Bool, if◌then◌else◌, List, [], ◌∷◌, ◌++◌, Option, Some, None}
use Rattle.std.specs.Int.{w16, from_be_bytes, to_be_bytes}
use Rattle.std.specs.List.{fold, list_any, flat_map}
use Rattle.mcbp_kv.specs.declared.feature.Feature.{Feature}
use Rattle.mcbp_kv.specs.declared.feature.Feature.TheVariants as feature

-- the number of a feature
abbrev pub feature_code : Feature → ℕ
feature_code feature.MutationSeqnos = 0x04
feature_code feature.Json = 0x0b
feature_code feature.AltRequests = 0x10
feature_code feature.SyncReplication = 0x11

-- the feature of a number, if there is one
abbrev pub feature_of : ℕ → Option Feature
feature_of code =
    if code == 0x04 then Some feature.MutationSeqnos
    else if code == 0x0b then Some feature.Json
    else if code == 0x10 then Some feature.AltRequests
    else if code == 0x11 then Some feature.SyncReplication
    else None

-- whether a feature is in a list
abbrev pub has_feature : Feature → List Feature → Bool
has_feature f fs = list_any (λ g. feature_code g == feature_code f) fs

-- features with one more, each once
abbrev pub with_feature : List Feature → Option Feature → List Feature
with_feature fs None = fs
with_feature fs (Some f) = if has_feature f fs then fs else fs ++ f ∷ []

-- the features with the one of a number that is asked for
abbrev pub with_feature_code : List Feature → ℕ → List Feature
with_feature_code fs code = with_feature fs (feature_of code)

-- numbers of two bytes each
abbrev pub pairs : List ℕ → List ℕ
pairs [] = []
pairs (high ∷ []) = []
pairs (high ∷ low ∷ rest) = from_be_bytes w16 (high ∷ low ∷ []) ∷ pairs rest

-- the features that are accepted of those asked for by their numbers: the ones that there are, in the order asked, each once
unfoldable pub accepted : List ℕ → List Feature
accepted value = fold with_feature_code [] (pairs value)

-- the numbers of features, two bytes each
unfoldable pub feature_bytes : List Feature → List ℕ
feature_bytes features = flat_map (λ f. to_be_bytes w16 (feature_code f)) features
