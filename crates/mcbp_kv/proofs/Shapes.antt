-- the tests of a command's opcode, datatype and parts decide what the protocol says of them
use Rattle.std.proofs.Common.{◌≡◌, ℕ, ◌≤◌, Bool, true, false, List, [], ◌∷◌, Some, None, length, refl, ap, sym, subst, ◌⊎◌, inl, inr, arith, cond}
use Rattle.std.specs.Prelude.{◌==◌, ◌&&◌, ◌||◌, ◌%◌, not, nat_le, nat_lt, is_some}
use Rattle.std.specs.Bool.{Decides}
use Rattle.std.specs.List.{Contains}
use Rattle.std.proofs.lemmas.Bool.{cases_lt, and_parts, or_cases, eqb-true, eq-eqb, and_from}
use Rattle.std.proofs.lemmas.Bool.Decides.{nat_tests, Decides-eqb, Decides-and, Decides-or, Decides-like, Decides-ltb}
use Rattle.std.proofs.lemmas.List.Folds.{Any-from_list_any, list_any_at}
use Rattle.mcbp_frame.specs.declared.frame.Frame.{Frame}
use Rattle.vb_types.specs.Limits.{IsKey, key_of}
use Rattle.vb_types.specs.declared.change.Level.TheVariants as level
use Rattle.vb_types.specs.declared.key.TheConstants.{MAX_KEY, MAX_VALUE}
use Rattle.vb_types.specs.Levels.{level_of}
use Rattle.mcbp_kv.specs.Refusals.{IsLevel}
use Rattle.mcbp_kv.specs.Requests.{is_one_of, client_opcodes, write_opcodes, is_datatype, is_key_alone, is_keyed_write, is_empty, is_greeting, has_shape}
use Rattle.mcbp_kv.specs.Shapes.{IsCommandCode, IsWriteCode, HasDatatype, HasKeyAlone, HasNothing, HasGreeting, HasDocument, HasForm, IsTooLong}
use Rattle.mcbp_kv.specs.declared.opcodes.TheConstants.{GET, SET, ADD, REPLACE, DELETE, NOOP, HELLO}

one_of : (n : ℕ) (ns : List ℕ) → Decides (is_one_of n ns) (Contains ns n)
one_of n ns = (
  λ h.
      let (k, m, lt, at, same) = Any-from_list_any (λ m. m == n) ns h in
      subst (Contains ns) (eqb-true m n same) (k, lt, at),
  λ h. list_any_at (λ m. m == n) ns h.0 n h.1 (eq-eqb _ n h.2),
)

pub command_code : (opcode : ℕ) → Decides (is_one_of opcode client_opcodes) (IsCommandCode opcode)
command_code opcode = one_of opcode client_opcodes

pub write_code : (opcode : ℕ) → Decides (is_one_of opcode write_opcodes) (IsWriteCode opcode)
write_code opcode = one_of opcode write_opcodes

json_decides : (json : Bool) → Decides json (json ≡ true)
json_decides json = (λ h. h, λ h. h)

pub datatype_decides : (json : Bool) (datatype : ℕ) → Decides (is_datatype json datatype) (HasDatatype json datatype)
datatype_decides json datatype =
    Decides-or (datatype == 0) (json && datatype == 1) (Decides-eqb datatype 0)
    (Decides-and json (datatype == 1) (json_decides json) (Decides-eqb datatype 1))

no_bytes : (bytes : List ℕ) → length bytes ≡ 0 → bytes ≡ []
no_bytes [] h = refl
no_bytes (b ∷ bytes) h = absurd (omega (arith, h))

none_decides : (bytes : List ℕ) → Decides (length bytes == 0) (bytes ≡ [])
none_decides bytes = Decides-like (length bytes == 0) (no_bytes bytes) (λ h. ap length h) (Decides-eqb (length bytes) 0)

most_decides : (a b : ℕ) → Decides (nat_le a b) (a ≤ b)
most_decides a b = (λ h. grind (arith, nat_tests), λ h. grind (arith, nat_tests))

one_of_three : (a b c : Bool) → is_some (cond a (Some level.Majority) (cond b (Some level.MajorityPersistActive) (cond c (Some level.PersistMajority) None))) ≡ (a || (b || c))
one_of_three true b c = refl
one_of_three false true c = refl
one_of_three false false true = refl
one_of_three false false false = refl

is_level : (named : ℕ) → (named ≡ 1) ⊎ ((named ≡ 2) ⊎ (named ≡ 3)) → IsLevel named
is_level named (inl e) = (omega (arith, e), omega (arith, e))
is_level named (inr (inl e)) = (omega (arith, e), omega (arith, e))
is_level named (inr (inr e)) = (omega (arith, e), omega (arith, e))

of_three : (named : ℕ) → IsLevel named → (named ≡ 1) ⊎ ((named ≡ 2) ⊎ (named ≡ 3))
of_three named h = elim (cases_lt named 2) [
  | inl p ↦ inl (omega (arith, p, h.0))
  | inr p ↦ elim (cases_lt named 3) [ inl q ↦ inr (inl (omega (arith, p, q))) | inr q ↦ inr (inr (omega (arith, q, h.1))) ]
]

pub level_decides : (named : ℕ) → Decides (is_some (level_of named)) (IsLevel named)
level_decides named =
    subst (λ t. Decides t (IsLevel named)) (sym (one_of_three (named == 1) (named == 2) (named == 3)))
    (Decides-like _ (is_level named) (of_three named)
    (Decides-or (named == 1) (named == 2 || named == 3) (Decides-eqb named 1)
    (Decides-or (named == 2) (named == 3) (Decides-eqb named 2) (Decides-eqb named 3))))

some_key : (t : Bool) (key : List ℕ) → is_some (cond t (Some key) None) ≡ t
some_key true key = refl
some_key false key = refl

pub key_decides : (key : List ℕ) → Decides (is_some (key_of key)) (IsKey key)
key_decides key =
    subst (λ t. Decides t (IsKey key)) (sym (some_key (nat_le 1 (length key) && nat_le (length key) MAX_KEY) key))
    (Decides-and (nat_le 1 (length key)) (nat_le (length key) MAX_KEY) (most_decides 1 (length key)) (most_decides (length key) MAX_KEY))

three : {P Q R : Type 0} (x y z : Bool) → Decides x P → Decides y Q → Decides z R → Decides (x && y && z) ((P × Q) × R)
three x y z p q r = Decides-and (x && y) z (Decides-and x y p q) r

pub key_alone : (f : Frame) → Decides (is_key_alone f) (HasKeyAlone f)
key_alone f = Decides-like (is_key_alone f)
    (λ h. record { extras = h.0.0; key = h.0.1; value = h.1 })
    (λ h. ((h.extras, h.key), h.value))
    (three _ _ _ (none_decides f.extras) (key_decides f.key) (none_decides f.value))

pub nothing : (f : Frame) → Decides (is_empty f) (HasNothing f)
nothing f = Decides-like (is_empty f)
    (λ h. record { extras = h.0.0; key = h.0.1; value = h.1 })
    (λ h. ((h.extras, h.key), h.value))
    (three _ _ _ (none_decides f.extras) (none_decides f.key) (none_decides f.value))

pub greeting : (f : Frame) → Decides (is_greeting f) (HasGreeting f)
greeting f = Decides-like (is_greeting f)
    (λ h. record { extras = h.0.0; name = h.0.1; features = h.1 })
    (λ h. ((h.extras, h.name), h.features))
    (three _ _ _ (none_decides f.extras) (most_decides (length f.key) MAX_KEY) (Decides-eqb (length f.value % 2) 0))

document : (f : Frame) → Decides (is_keyed_write f) (HasDocument f)
document f = Decides-like (is_keyed_write f)
    (λ h. record { extras = h.0; key = h.1 })
    (λ h. (h.extras, h.key))
    (Decides-and _ _ (Decides-eqb (length f.extras) 8) (key_decides f.key))

not_not : (b : Bool) → not (not b) ≡ b
not_not true = refl
not_not false = refl

pub new_document : (f : Frame) → Decides (is_keyed_write f && not (not (f.cas == 0))) (HasDocument f × (f.cas ≡ 0))
new_document f = Decides-and _ _ (document f) (subst (λ t. Decides t (f.cas ≡ 0)) (sym (not_not (f.cas == 0))) (Decides-eqb f.cas 0))

pub old_document : (f : Frame) → Decides (is_keyed_write f && true) (HasDocument f)
old_document f = (λ h. (document f).0 (and_parts (is_keyed_write f) true h).0, λ h. and_from (is_keyed_write f) true ((document f).1 h) refl)

-- what holds of each command's opcode holds of one that is there
pub each_code : (P : ℕ → Type 0) → P GET → P SET → P ADD → P REPLACE → P DELETE → P NOOP → P HELLO → (opcode : ℕ) → is_one_of opcode client_opcodes ≡ true → P opcode
each_code P get set add replace delete noop hello opcode h = elim (or_cases (GET == opcode) _ h) [
  | inl a ↦ subst P (eqb-true GET opcode a) get
  | inr h ↦ elim (or_cases (NOOP == opcode) _ h) [
    | inl a ↦ subst P (eqb-true NOOP opcode a) noop
    | inr h ↦ elim (or_cases (HELLO == opcode) _ h) [
      | inl a ↦ subst P (eqb-true HELLO opcode a) hello
      | inr h ↦ elim (or_cases (SET == opcode) _ h) [
        | inl a ↦ subst P (eqb-true SET opcode a) set
        | inr h ↦ elim (or_cases (ADD == opcode) _ h) [
          | inl a ↦ subst P (eqb-true ADD opcode a) add
          | inr h ↦ elim (or_cases (REPLACE == opcode) _ h) [
            | inl a ↦ subst P (eqb-true REPLACE opcode a) replace
            | inr h ↦ elim (or_cases (DELETE == opcode) false h) [
              | inl a ↦ subst P (eqb-true DELETE opcode a) delete
              | inr h ↦ absurd (cc h)
            ]
          ]
        ]
      ]
    ]
  ]
]

formed : (f : Frame) → has_shape f.opcode f ≡ true → HasForm f
formed f h = let at = λ (n : ℕ) (e : f.opcode ≡ n). subst (λ n. has_shape n f ≡ true) e h in record {
  get = λ e. (key_alone f).0 (at GET e);
  set = λ e. (old_document f).0 (at SET e);
  add = λ e. (new_document f).0 (at ADD e);
  replace = λ e. (old_document f).0 (at REPLACE e);
  delete = λ e. (key_alone f).0 (at DELETE e);
  noop = λ e. (nothing f).0 (at NOOP e);
  hello = λ e. (greeting f).0 (at HELLO e);
}

form_shaped : (f : Frame) → is_one_of f.opcode client_opcodes ≡ true → HasForm f → has_shape f.opcode f ≡ true
form_shaped f code h = each_code (λ n. f.opcode ≡ n → has_shape n f ≡ true)
    (λ e. (key_alone f).1 (h.get e))
    (λ e. (old_document f).1 (h.set e))
    (λ e. (new_document f).1 (h.add e))
    (λ e. (old_document f).1 (h.replace e))
    (λ e. (key_alone f).1 (h.delete e))
    (λ e. (nothing f).1 (h.noop e))
    (λ e. (greeting f).1 (h.hello e))
    f.opcode code refl

pub form_decides : (f : Frame) → is_one_of f.opcode client_opcodes ≡ true → Decides (has_shape f.opcode f) (HasForm f)
form_decides f code = (formed f, form_shaped f code)

pub long_decides : (value : List ℕ) → Decides (nat_lt MAX_VALUE (length value)) (IsTooLong value)
long_decides value = Decides-ltb MAX_VALUE (length value)
