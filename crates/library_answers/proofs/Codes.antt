-- Codes as they are printed: a letter and a number.
use Rattle.std.proofs.Common.{◌≡◌, ◌∙◌, ◌+◌, ◌<◌, ◌≤◌, ◌/◌, ◌%◌, ◌^◌, ◌++◌, ◌∷◌, [], ℕ, List, inr, sym, ap, ap₂}
use Rattle.std.specs.Fmt.{decimal}
use Rattle.std.proofs.lemmas.Fmt.{decimal_digit, decimal_step}
use Rattle.ir_text.specs.declared.read_fault.ReadFault.{ReadFault}
use Rattle.certificate.specs.declared.fault.CertFault.{CertFault}
use Rattle.fault_codes.specs.FaultCodes.{cert_code, read_code}
use Rattle.check_commands.specs.Rechecks.{code_text}
use Rattle.library_answers.specs.declared.place.Place.{Place}
use Rattle.library_answers.specs.Told.{IsCode}

-- a number of one digit
pub one_digit : (letter n : ℕ) → n < 10 → letter ∷ (48 + n) ∷ [] ≡ letter ∷ decimal n
one_digit letter n small = ap (λ (l : List ℕ). letter ∷ l) (sym (decimal_digit n small))

-- a number of two digits
pub two_digits : (letter tens n : ℕ) → 10 ≤ n → n < 2 ^ 64 → n / 10 ≡ tens → tens < 10 → letter ∷ (48 + tens) ∷ (48 + n % 10) ∷ [] ≡ letter ∷ decimal n
two_digits letter tens n low high by_ten small =
    let first = ap decimal by_ten ∙ decimal_digit tens small in
    ap (λ (l : List ℕ). letter ∷ l) (sym (decimal_step n low high ∙ ap (λ (l : List ℕ). l ++ (48 + n % 10) ∷ []) first))

-- a place has the code of its letter and its number
pub code_told : (code : List ℕ) (letter number : ℕ) (p : Place) → code ≡ letter ∷ decimal number → p.letter ≡ letter → p.number ≡ number → IsCode code p
code_told code letter number p is of_letter of_number = inr (is ∙ sym (ap₂ (λ (a b : ℕ). a ∷ decimal b) of_letter of_number))

-- the code of a fault of a module's text, as it is printed
abbrev pub read_text : ReadFault → List ℕ
read_text fault = code_text (read_code fault)

-- the code of a fault of a certificate's text, as it is printed
abbrev pub cert_text : CertFault → List ℕ
cert_text fault = code_text (cert_code fault)
