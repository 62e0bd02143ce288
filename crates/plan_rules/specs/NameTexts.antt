-- What names are called.
use Rattle.std.specs.Prelude.{ℕ, ◌+◌, ◌/◌, ◌%◌, cond, nat_lt, List, [], ◌∷◌, ◌++◌, map, codes}
use Rattle.plan_laws.specs.declared.period_plan.Activity.{Activity}
use Rattle.plan_laws.specs.Names.{Kind, at, run, block, free_one, any_list, open_list, from, other, work, rest, off, step, steps, lead, duty, day, start}

-- a number below 100 in digits
abbrev pub digits : ℕ → List ℕ
digits n = cond (nat_lt n 10) ((48 + n) ∷ []) ((48 + n / 10) ∷ (48 + n % 10) ∷ [])

-- a word, `_` and the place of the name
abbrev pub numbered : List ℕ → ℕ → List ℕ
numbered word n = word ++ 95 ∷ digits n

-- ... with the codes of activities between them
abbrev pub with_code : List ℕ → Activity → List ℕ
with_code word a = word ++ 95 ∷ a.code ∷ []

abbrev pub set_codes : List Activity → List ℕ
set_codes s = map (λ (a : Activity). a.code) s

abbrev pub with_codes : List ℕ → List Activity → List ℕ
with_codes word s = word ++ 95 ∷ set_codes s

-- a duty name, or a word where there is none
abbrev pub name_or : List ℕ → List ℕ → List ℕ
name_or word [] = word
name_or word (c ∷ cs) = c ∷ cs

-- a day of the lines of a duty name is called so
abbrev pub day_text : List ℕ → ℕ → List ℕ
day_text [] n = numbered (codes "Day") n
day_text (c ∷ cs) n = c ∷ cs

abbrev pub name_text : ℕ → Kind → List ℕ
name_text n (at r a) = numbered (with_code (codes "At") a) n
name_text n (run r a) = numbered (with_code (codes "Run") a) n
name_text n (block r a) = numbered (with_code (codes "Block") a) n
name_text n (free_one r s) = numbered (with_codes (codes "One") s) n
name_text n (any_list r s) = numbered (with_codes (codes "Some") s) n
name_text n (open_list r s) = numbered (with_codes (codes "Open") s) n
name_text n (from r s a) = numbered (with_code (codes "From") a) n
name_text n (other r s a) = numbered (with_code (codes "Not") a) n
name_text n (work r s long) = numbered (with_codes (codes "Work") s) n
name_text n (rest r a begin) = numbered (with_code (codes "Pause") a) n
name_text n off = numbered (codes "Off") n
name_text n step = numbered (codes "Step") n
name_text n steps = numbered (codes "Steps") n
name_text n lead = numbered (codes "Lead") n
name_text n (duty name ds) = numbered (name_or (codes "Any") name ++ codes "_duty") n
name_text n (day name ds) = day_text name n
name_text n (start xs) = numbered (codes "Day") n

-- what the names are called from this place on
abbrev pub name_texts : ℕ → List Kind → List (List ℕ)
name_texts n [] = []
name_texts n (k ∷ ks) = name_text n k ∷ name_texts (n + 1) ks
