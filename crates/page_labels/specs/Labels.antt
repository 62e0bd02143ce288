-- What a labels text says of codes and groups.
use Rattle.std.specs.Prelude.{ℕ, Bool, ◌&&◌, None, Some, List, [], ◌∷◌, nat_eq, if◌then◌else◌}
use Rattle.std.specs.List.{list_any}
use Rattle.page_labels.specs.declared.labels.CodeLabel.{CodeLabel}
use Rattle.page_labels.specs.declared.labels.GroupLabel.{GroupLabel}
use Rattle.page_labels.specs.declared.labels.Labels.{Labels}
use Rattle.page_labels.specs.declared.labels.PaidCode.{PaidCode}
use Rattle.page_labels.specs.declared.labels.ShiftLabel.{ShiftLabel}

-- what an empty text says
abbrev pub nothing : Labels
nothing =
    record {
      title = [];
      clock = None;
      codes = [];
      groups = [];
      money = [];
      paid = [];
      off = None;
      shifts = [];
      decimals = None;
    }

abbrev pub has_code : List CodeLabel → ℕ → Bool
has_code labels code = list_any (λ (x : CodeLabel). nat_eq x.code code) labels

abbrev pub has_group : List GroupLabel → ℕ → Bool
has_group labels group = list_any (λ (x : GroupLabel). nat_eq x.group group) labels

abbrev pub has_paid : List PaidCode → ℕ → Bool
has_paid codes code = list_any (λ (x : PaidCode). nat_eq x.code code) codes

-- the periods of the code are said to count as paid
abbrev pub is_paid : List PaidCode → ℕ → Bool
is_paid codes code = list_any (λ (x : PaidCode). nat_eq x.code code && x.paid) codes

abbrev pub has_shift : List ShiftLabel → ℕ → Bool
has_shift labels number = list_any (λ (x : ShiftLabel). nat_eq x.number number) labels

-- how many decimals amounts have
abbrev pub decimals_of : Labels → ℕ
decimals_of d = elim d.decimals [ None ↦ 0 | Some n ↦ n ]

-- the words for a code, or nothing where it has none
abbrev pub code_words : List CodeLabel → ℕ → List ℕ
code_words [] code = []
code_words (x ∷ xs) code = if nat_eq x.code code then x.words else code_words xs code

-- the words for a group, or nothing where it has none
abbrev pub group_words : List GroupLabel → ℕ → List ℕ
group_words [] group = []
group_words (x ∷ xs) group = if nat_eq x.group group then x.words else group_words xs group

-- the name of the shift with a number, or nothing where it has none
abbrev pub shift_name : List ShiftLabel → ℕ → List ℕ
shift_name [] number = []
shift_name (x ∷ xs) number = if nat_eq x.number number then x.name else shift_name xs number
