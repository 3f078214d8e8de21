-- The codes, their names and their texts.
use Rattle.std.specs.Prelude.{ℕ, List, [], ◌∷◌, Option, codes, find}
use Rattle.std.specs.Str.{str_eq_ignore_ascii_case}
use Rattle.explain.specs.declared.code.Code.{Code}
use Rattle.explain.specs.declared.code.Code.TheVariants as code
use Rattle.explain.specs.declared.rule_texts_from_1.TheConstants as first_rules
use Rattle.explain.specs.declared.rule_texts_from_11.TheConstants as further_rules
use Rattle.explain.specs.declared.module_texts.TheConstants as of_module
use Rattle.explain.specs.declared.certificate_texts.TheConstants as of_certificate
use Rattle.explain.specs.declared.layout_texts.TheConstants as of_layout
use Rattle.explain.specs.declared.trace_texts.TheConstants as of_trace
use Rattle.explain.specs.declared.record_texts_from_1.TheConstants as first_of_records
use Rattle.explain.specs.declared.record_texts_from_11.TheConstants as further_of_records

-- all codes
abbrev pub all_codes : List Code
all_codes =
    code.K1 ∷ code.K2 ∷ code.K3 ∷ code.K4 ∷ code.K5 ∷ code.K6 ∷ code.K7 ∷ code.K8 ∷ code.K9 ∷ code.K10 ∷
    code.K11 ∷ code.K12 ∷ code.K13 ∷ code.K14 ∷ code.K15 ∷ code.K16 ∷ code.K17 ∷ code.K18 ∷ code.K19 ∷ code.K20 ∷
    code.L1 ∷ code.L2 ∷ code.L3 ∷ code.L4 ∷ code.L5 ∷ code.L6 ∷ code.L7 ∷ code.L8 ∷ code.L9 ∷ code.L10 ∷
    code.C1 ∷ code.C2 ∷ code.C3 ∷ code.C4 ∷ code.C5 ∷ code.C6 ∷
    code.Y1 ∷ code.Y2 ∷ code.Y3 ∷ code.Y4 ∷ code.Y5 ∷
    code.P1 ∷ code.P2 ∷ code.P3 ∷
    code.H1 ∷ code.H2 ∷ code.H3 ∷ code.H4 ∷ code.H5 ∷ code.H6 ∷ code.H7 ∷ code.H8 ∷ code.H9 ∷ code.H10 ∷
    code.H11 ∷ code.H12 ∷ code.H13 ∷ code.H14 ∷ code.H15 ∷ code.H16 ∷
    []

-- a code as it is printed
abbrev pub name_of : Code → List ℕ
name_of code.K1 = codes "K1"
name_of code.K2 = codes "K2"
name_of code.K3 = codes "K3"
name_of code.K4 = codes "K4"
name_of code.K5 = codes "K5"
name_of code.K6 = codes "K6"
name_of code.K7 = codes "K7"
name_of code.K8 = codes "K8"
name_of code.K9 = codes "K9"
name_of code.K10 = codes "K10"
name_of code.K11 = codes "K11"
name_of code.K12 = codes "K12"
name_of code.K13 = codes "K13"
name_of code.K14 = codes "K14"
name_of code.K15 = codes "K15"
name_of code.K16 = codes "K16"
name_of code.K17 = codes "K17"
name_of code.K18 = codes "K18"
name_of code.K19 = codes "K19"
name_of code.K20 = codes "K20"
name_of code.L1 = codes "L1"
name_of code.L2 = codes "L2"
name_of code.L3 = codes "L3"
name_of code.L4 = codes "L4"
name_of code.L5 = codes "L5"
name_of code.L6 = codes "L6"
name_of code.L7 = codes "L7"
name_of code.L8 = codes "L8"
name_of code.L9 = codes "L9"
name_of code.L10 = codes "L10"
name_of code.C1 = codes "C1"
name_of code.C2 = codes "C2"
name_of code.C3 = codes "C3"
name_of code.C4 = codes "C4"
name_of code.C5 = codes "C5"
name_of code.C6 = codes "C6"
name_of code.Y1 = codes "Y1"
name_of code.Y2 = codes "Y2"
name_of code.Y3 = codes "Y3"
name_of code.Y4 = codes "Y4"
name_of code.Y5 = codes "Y5"
name_of code.P1 = codes "P1"
name_of code.P2 = codes "P2"
name_of code.P3 = codes "P3"
name_of code.H1 = codes "H1"
name_of code.H2 = codes "H2"
name_of code.H3 = codes "H3"
name_of code.H4 = codes "H4"
name_of code.H5 = codes "H5"
name_of code.H6 = codes "H6"
name_of code.H7 = codes "H7"
name_of code.H8 = codes "H8"
name_of code.H9 = codes "H9"
name_of code.H10 = codes "H10"
name_of code.H11 = codes "H11"
name_of code.H12 = codes "H12"
name_of code.H13 = codes "H13"
name_of code.H14 = codes "H14"
name_of code.H15 = codes "H15"
name_of code.H16 = codes "H16"

-- the page of text about a code
abbrev pub text_of : Code → List ℕ
text_of code.K1 = first_rules.K1.now
text_of code.K2 = first_rules.K2.now
text_of code.K3 = first_rules.K3.now
text_of code.K4 = first_rules.K4.now
text_of code.K5 = first_rules.K5.now
text_of code.K6 = first_rules.K6.now
text_of code.K7 = first_rules.K7.now
text_of code.K8 = first_rules.K8.now
text_of code.K9 = first_rules.K9.now
text_of code.K10 = first_rules.K10.now
text_of code.K11 = further_rules.K11.now
text_of code.K12 = further_rules.K12.now
text_of code.K13 = further_rules.K13.now
text_of code.K14 = further_rules.K14.now
text_of code.K15 = further_rules.K15.now
text_of code.K16 = further_rules.K16.now
text_of code.K17 = further_rules.K17.now
text_of code.K18 = further_rules.K18.now
text_of code.K19 = further_rules.K19.now
text_of code.K20 = further_rules.K20.now
text_of code.L1 = of_module.L1.now
text_of code.L2 = of_module.L2.now
text_of code.L3 = of_module.L3.now
text_of code.L4 = of_module.L4.now
text_of code.L5 = of_module.L5.now
text_of code.L6 = of_module.L6.now
text_of code.L7 = of_module.L7.now
text_of code.L8 = of_module.L8.now
text_of code.L9 = of_module.L9.now
text_of code.L10 = of_module.L10.now
text_of code.C1 = of_certificate.C1.now
text_of code.C2 = of_certificate.C2.now
text_of code.C3 = of_certificate.C3.now
text_of code.C4 = of_certificate.C4.now
text_of code.C5 = of_certificate.C5.now
text_of code.C6 = of_certificate.C6.now
text_of code.Y1 = of_layout.Y1.now
text_of code.Y2 = of_layout.Y2.now
text_of code.Y3 = of_layout.Y3.now
text_of code.Y4 = of_layout.Y4.now
text_of code.Y5 = of_layout.Y5.now
text_of code.P1 = of_trace.P1.now
text_of code.P2 = of_trace.P2.now
text_of code.P3 = of_trace.P3.now
text_of code.H1 = first_of_records.H1.now
text_of code.H2 = first_of_records.H2.now
text_of code.H3 = first_of_records.H3.now
text_of code.H4 = first_of_records.H4.now
text_of code.H5 = first_of_records.H5.now
text_of code.H6 = first_of_records.H6.now
text_of code.H7 = first_of_records.H7.now
text_of code.H8 = first_of_records.H8.now
text_of code.H9 = first_of_records.H9.now
text_of code.H10 = first_of_records.H10.now
text_of code.H11 = further_of_records.H11.now
text_of code.H12 = further_of_records.H12.now
text_of code.H13 = further_of_records.H13.now
text_of code.H14 = further_of_records.H14.now
text_of code.H15 = further_of_records.H15.now
text_of code.H16 = further_of_records.H16.now

-- the code of this name, in upper or lower case
unfoldable pub code_named : (name : List ℕ) → Option Code
code_named name = find (λ code. str_eq_ignore_ascii_case (name_of code) name) all_codes
