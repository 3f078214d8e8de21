-- The text of a function is read alone where the whole text in which it stands is read as a module with the same names.
use Rattle.std.proofs.Common.{◌≡◌, ℕ, List, [], ◌∷◌, ◌++◌, length, Some, sym, ap, subst, ◌∙◌, arith, length-append}
use Rattle.std.specs.Prelude.{slice_get}
use Rattle.grammar.specs.Grammar.{◌>>=◌}
use Rattle.lemmas.specs.Lists.{get_end, get_front}
use Rattle.ir_ast.specs.declared.function.Function.{Function}
use Rattle.ir_ast.specs.declared.module.Module.{Module}
use Rattle.ir_tokens.specs.Bytes.{Text}
use Rattle.ir_text.specs.Anew.{named_head}
use Rattle.ir_text.specs.Replaced.{name_in, name_of}
use Rattle.ir_text.specs.ItemsOfText.{body_after}
use Rattle.ir_text.specs.Read.{module_of, start_in}
use Rattle.name_text.specs.Readings.{AreBytes}
use Rattle.ir_print_law.specs.Printable.{IsFunction}
use Rattle.ir_print_law.specs.Wholes.{IsWhole}
use Rattle.ir_print_law.proofs.FunctionsRead.{function_is}
use Rattle.ir_print_law.proofs.ItemsRead.{Grows, Grown, grown_further, IsBetween}
use Rattle.ir_print_law.proofs.ModuleRead.{read_so, ends}
use Rattle.ir_print_law.proofs.ModuleState.{Kept, Leads, Made}
use Rattle.ir_print_law.proofs.ReplacedWhole.{replaced_is_alone}
use Rattle.ir_print_law.proofs.Tables.{Begins}
use Rattle.ir_print_law.specs.Standing.{StandsBetween, StandsIn, ReadsPast, HaveSameNames, IsCounted, AreCounted, StayCounted, AreReadAlone}
use Rattle.ir_print_law.proofs.Law.{read_anew}
use Rattle.ir_print_law.proofs.Meaning.{First, named_at, name_of_item, name_here, mean_alike, are_right}
use Rattle.ir_print_law.proofs.Passed.{Told, past_function, items_before, items_after, nothing_made, starts}

-- ---- tables are counted

pub are_counted : AreCounted
are_counted = read_so IsFunction (λ m w. function_is w) IsCounted (λ o h. h.0.symbols.same)

pub stay_counted : StayCounted
stay_counted m func bytes n whole within own h counted = let a = replaced_is_alone m func bytes n whole within own h in subst IsCounted (sym a.1) counted

-- ---- the state before the function

-- a list that grew begins with what it was
grown_begins : {A : Type 0} (P : A → Type 0) (xs made last ys : List A) → xs ≡ made → Grows P made last → ys ≡ last → Begins xs ys
grown_begins P xs made last ys a g b = (g.0, b ∙ g.1 ∙ ap (λ (l : List _). l ++ g.0) (sym a))

module _ (m : Module) (func : ℕ) (code whole : Text) (n : Module) (is_whole : IsWhole m) (own : AreBytes whole) (named : HaveSameNames m n) (h : StandsIn func code whole n) where
  p : ReadsPast whole n h.before h.after
  p = h.passes

  same : HaveSameNames m (module_of p.end)
  same = subst (HaveSameNames m) (sym p.is) named

  first : (made : Made) × IsBetween made h.before
  first = items_before p.end p.earlier (start_in n.wide whole p.lexed) nothing_made h.before p.comes (starts n.wide whole p.lexed own p.is_lexed)

  second : (later : Made) × IsBetween later h.after
      × (Leads p.end h.after → Leads p.end h.before × Grown (module_of p.end) (IsFunction (module_of p.end)) first.0 later × Told p.end first.0 later h.before h.after)
  second = past_function p.end h.before first.0 h.after p.function first.1

  third : (last : Made) × IsBetween last p.end × (Leads p.end p.end → Leads p.end h.after × Grown (module_of p.end) (IsFunction (module_of p.end)) second.0 last)
  third = items_after p.end p.later h.after second.0 p.end p.goes_on second.1

  after_leads : Leads p.end h.after × Grown (module_of p.end) (IsFunction (module_of p.end)) second.0 third.0
  after_leads = third.2 (ends p.end third.1.0 p.none_late)

  before_leads : Leads p.end h.before × Grown (module_of p.end) (IsFunction (module_of p.end)) first.0 second.0 × Told p.end first.0 second.0 h.before h.after
  before_leads = second.2 after_leads.0

  told : Told p.end first.0 second.0 h.before h.after
  told = before_leads.2

  grown : Grown (module_of p.end) (IsFunction (module_of p.end)) first.0 third.0
  grown = grown_further (module_of p.end) (IsFunction (module_of p.end)) first.0 second.0 third.0 before_leads.1 after_leads.1

  starts_so : First h.before p.end
  starts_so = record {
    globals = grown_begins _ h.before.globals first.0.globals third.0.globals p.end.globals (ap (λ (x : Kept). x.globals) first.1.1) grown.globals (ap (λ (x : Kept). x.globals) third.1.1);
    declares = grown_begins _ h.before.declares first.0.declares third.0.declares p.end.declares (ap (λ (x : Kept). x.declares) first.1.1) grown.declares (ap (λ (x : Kept). x.declares) third.1.1);
    functions = grown_begins _ h.before.functions first.0.functions third.0.functions p.end.functions (ap (λ (x : Kept). x.functions) first.1.1) grown.functions (ap (λ (x : Kept). x.functions) third.1.1);
    names = before_leads.0.symbols;
  }

  -- ---- the name of the function

  number_is : length first.0.functions ≡ func
  number_is = sym (ap (λ (x : Kept). length x.functions) first.1.1) ∙ h.functions

  there : slice_get p.end.functions (length first.0.functions) ≡ Some told.f
  there =
      let later = after_leads.1.functions in
      let all : p.end.functions ≡ (first.0.functions ++ told.f ∷ []) ++ later.0 =
      ap (λ (x : Kept). x.functions) third.1.1 ∙ later.1 ∙ ap (λ (l : List Function). l ++ later.0) told.last in
      ap (λ (l : List Function). slice_get l (length first.0.functions)) all
      ∙ get_front (first.0.functions ++ told.f ∷ []) later.0 (length first.0.functions) told.f (get_end first.0.functions told.f)

  name_is : told.name ≡ name_of m func
  name_is =
      let item = name_of_item (λ (x : Function). x.symbol) p.end.symbols.names p.end.functions (length first.0.functions) told.f told.name there (name_here p.end.symbols.names told.f.symbol told.name told.named) in
      let own_item = sym (ap (λ (l : List Text). slice_get l (length first.0.functions)) same.functions) ∙ item in
      let x = named_at (λ (f : Function). f.symbol) m.symbols m.functions (length first.0.functions) told.name own_item in
      sym (ap (λ (k : ℕ). name_in m (slice_get m.functions k)) (sym number_is) ∙ ap (name_in m) x.1 ∙ x.2)

  in_place : (named_head func (name_of m func) >>= body_after).says h.before tt h.after
  in_place =
      subst (λ (name : Text). (named_head func name >>= body_after).says h.before tt h.after) name_is
      (subst (λ (k : ℕ). (named_head k told.name >>= body_after).says h.before tt h.after) number_is (told.placed p.begins))

  stands : StandsBetween m func code h.before h.after
  stands = record {
    front = h.front;
    rest = h.rest;
    text = h.within ∙ h.text;
    own = h.own;
    lexed = h.lexed;
    good = h.good;
    closed = h.closed;
    tail = h.tail;
    tokens = h.tokens;
    over = h.over;
    read = in_place;
    no_locals = ap (λ (x : Kept). x.locals) first.1.1;
    no_uses = ap (λ (x : Kept). x.local_uses) first.1.1;
    no_values = ap (λ (x : Kept). x.values) first.1.1;
    no_numbers = ap (λ (x : Kept). x.unnamed) first.1.1;
    counted = first.1.0.symbols.same;
    means = mean_alike m is_whole.names h.before p.end first.1.0 starts_so same func
        (h.globals ∙ ap (λ (x : Module). length x.globals) (sym p.is)) (h.declares ∙ ap (λ (x : Module). length x.declares) (sym p.is)) h.functions;
    none_missing = after_leads.0.missing;
    right = are_right m is_whole.names h.after p.end after_leads.0 same;
    forms = before_leads.0.forms ∙ same.forms;
    place = first.1.0.place ∙ before_leads.0.forms ∙ same.forms;
  }

pub read_alone : AreReadAlone
read_alone m func code whole n is_whole counted own short named h =
    let lengths = ap (λ (l : Text). length l) h.text in
    let one = length-append h.front (code ++ h.rest) in
    let two = length-append code h.rest in
    read_anew m func code h.before h.after counted (omega (arith, short, lengths, one, two)) (stands m func code whole n is_whole own named h)
