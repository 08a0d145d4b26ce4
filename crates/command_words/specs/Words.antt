-- What the words of the command line ask for. They are read one after the other.
use Rattle.std.specs.Prelude.{ℕ, ◌+◌, ◌-◌, ◌*◌, ◌==◌, ◌&&◌, ◌||◌, not, Bool, true, false, List, [], ◌∷◌, ◌++◌, length, take, drop, reverse, slice_index, bytes_eq, nat_lt, nat_le, codes, Option, Some, None, ◌≤◌, IfSome, is_none, ℤ, pos, neg_ℤ, negsuc, if◌then◌else◌}
use Rattle.std.specs.Option.{option_map, option_map_or, option_and_then}
use Rattle.std.specs.List.{prefix_len, list_all}
use Rattle.std.specs.Char.{is_ascii_digit}
use Rattle.clf_tree.specs.declared.scopes.GivenScope.{GivenScope}
use Rattle.command_words.specs.declared.settings.Setting.{Setting}
use Rattle.command_words.specs.declared.settings.Setting.TheVariants as setting
use Rattle.command_words.specs.declared.asked.Asked.{Asked}
use Rattle.command_words.specs.declared.wanted.Wanted.{Wanted}
use Rattle.command_words.specs.declared.wanted.Wanted.TheVariants as want
use Rattle.command_words.specs.declared.reading.Request.{Request}

-- ---- numbers

-- the number of decimal digits that follow those of n
unfoldable pub value_after : ℕ → List ℕ → ℕ
value_after n [] = n
value_after n (digit ∷ digits) = value_after (n * 10 + (digit - 48)) digits

-- the number that 1 to 18 decimal digits write
unfoldable pub number : List ℕ → Option ℕ
number text = if nat_lt 0 (length text) && nat_le (length text) 18 && list_all is_ascii_digit text then Some (value_after 0 text) else None

abbrev pub begins_with_dash : List ℕ → Bool
begins_with_dash text = nat_lt 0 (length text) && (slice_index text 0 == 45)

-- the same with `-` before it where it is negative
unfoldable pub integer : List ℕ → Option ℤ
integer text =
    if begins_with_dash text
    then option_map (λ n. neg_ℤ (pos n)) (number (drop 1 text))
    else option_map (λ n. pos n) (number text)

-- a budget: a number from 1 to a thousand million
unfoldable pub budget_of : List ℕ → Option ℕ
budget_of text = option_and_then (λ n. if nat_le 1 n && nat_le n 1000000000 then Some n else None) (number text)

-- the number of a generated model: from 1 to 80
unfoldable pub model_of : List ℕ → Option ℕ
model_of text = option_and_then (λ n. if nat_le 1 n && nat_le n 80 then Some n else None) (number text)

-- within these bounds, and what is asked for so far is, or isn't given
abbrev pub IsBudget : ℕ → Type 0
IsBudget n = (1 ≤ n) × (n ≤ 1000000000)

abbrev pub IsModel : ℕ → Type 0
IsModel n = (1 ≤ n) × (n ≤ 80)

pub record IsBounded (asked : Asked) : Type 0 where
  pub budget : IfSome asked.budget IsBudget
  pub model : IfSome asked.generate IsModel

-- ---- settings

-- how many digits a text ends with
abbrev pub digits_behind : List ℕ → ℕ
digits_behind text = prefix_len is_ascii_digit (reverse text)

-- A scope: a path of one byte or more, `=`, and digits. So the path is all before the last `=`.
abbrev pub path_and_sign : List ℕ → List ℕ
path_and_sign text = take (length text - digits_behind text) text

abbrev pub ends_in_sign : List ℕ → Bool
ends_in_sign text = nat_lt 1 (length text) && (slice_index text (length text - 1) == 61)

unfoldable pub given_scope : List ℕ → Option GivenScope
given_scope text =
    if ends_in_sign (path_and_sign text)
    then option_map (λ most. record { path = take (length (path_and_sign text) - 1) text; most = most })
    (number (drop (length (path_and_sign text)) text))
    else None

-- the setting of a name
unfoldable pub setting_named : List ℕ → Option Setting
setting_named name =
    if bytes_eq name (codes "--scope") then Some setting.Scope
    else if bytes_eq name (codes "--default-scope") then Some setting.DefaultScope
    else if bytes_eq name (codes "--int-low") then Some setting.IntLow
    else if bytes_eq name (codes "--int-high") then Some setting.IntHigh
    else if bytes_eq name (codes "--budget") then Some setting.Budget
    else if bytes_eq name (codes "--seed") then Some setting.Seed
    else if bytes_eq name (codes "--generate") then Some setting.Generate
    else None

-- ---- words

-- what is asked for, once it is; but for scopes nothing is given twice
abbrev pub with_scope : Asked → Option GivenScope → Option Asked
with_scope asked scope = option_map (λ s. record asked { scopes = asked.scopes ++ s ∷ []; awaited = None }) scope

abbrev pub with_default : Asked → Option ℕ → Option Asked
with_default asked most = if is_none asked.default then option_map (λ n. record asked { default = Some n; awaited = None }) most else None

abbrev pub with_low : Asked → Option ℤ → Option Asked
with_low asked low = if is_none asked.low then option_map (λ z. record asked { low = Some z; awaited = None }) low else None

abbrev pub with_high : Asked → Option ℤ → Option Asked
with_high asked high = if is_none asked.high then option_map (λ z. record asked { high = Some z; awaited = None }) high else None

abbrev pub with_budget : Asked → Option ℕ → Option Asked
with_budget asked budget = if is_none asked.budget then option_map (λ n. record asked { budget = Some n; awaited = None }) budget else None

abbrev pub with_seed : Asked → Option ℕ → Option Asked
with_seed asked seed = if is_none asked.seed then option_map (λ n. record asked { seed = Some n; awaited = None }) seed else None

abbrev pub with_generate : Asked → Option ℕ → Option Asked
with_generate asked model =
    if is_none asked.generate then option_map (λ n. record asked { generate = Some n; awaited = None }) model else None

-- with the value of a setting
unfoldable pub with_value : Setting → List ℕ → Asked → Option Asked
with_value setting.Scope value asked = with_scope asked (given_scope value)
with_value setting.DefaultScope value asked = with_default asked (number value)
with_value setting.IntLow value asked = with_low asked (integer value)
with_value setting.IntHigh value asked = with_high asked (integer value)
with_value setting.Budget value asked = with_budget asked (budget_of value)
with_value setting.Seed value asked = with_seed asked (number value)
with_value setting.Generate value asked = with_generate asked (model_of value)

-- with a setting, whose value stands behind the first `=` of its word, or is the next word
abbrev pub name_length : List ℕ → ℕ
name_length word = prefix_len (λ b. not (b == 61)) word

unfoldable pub with_setting : List ℕ → Asked → Setting → Option Asked
with_setting word asked setting =
    if nat_lt (name_length word) (length word)
    then with_value setting (drop (name_length word + 1) word) asked
    else Some (record asked { awaited = Some setting })

-- with what is asked for, which is said once at most
abbrev pub with_wanted : Asked → Wanted → Option Asked
with_wanted asked word = if is_none asked.wanted then Some (record asked { wanted = Some word }) else None

-- with the word for the form of the report, at most once
abbrev pub with_json : Asked → Option Asked
with_json asked = if asked.json then None else Some (record asked { json = true })

-- with a word that isn't the value of the setting before it
unfoldable pub with_free_word : List ℕ → Asked → Option Asked
with_free_word word asked =
    if bytes_eq word (codes "one") then with_wanted asked want.One
    else if bytes_eq word (codes "front") then with_wanted asked want.Front
    else if asked.ended then None
    else if bytes_eq word (codes "--") then Some (record asked { ended = true })
    else if bytes_eq word (codes "--json") then with_json asked
    else option_and_then (with_setting word asked) (setting_named (take (name_length word) word))

-- with one more word
unfoldable pub with_word : List ℕ → Asked → Option Asked
with_word word asked =
    option_map_or (λ setting. if begins_with_dash word then None else with_value setting word asked) asked.awaited
    (with_free_word word asked)

-- with all the words
abbrev pub with_words : List (List ℕ) → Asked → Option Asked
with_words [] asked = Some asked
with_words (word ∷ words) asked = option_and_then (with_words words) (with_word word asked)

abbrev pub nothing_asked : Asked
nothing_asked = record {
  wanted = None;
  json = false;
  ended = false;
  awaited = None;
  scopes = [];
  default = None;
  low = None;
  high = None;
  budget = None;
  seed = None;
  generate = None;
}

-- whether one instance is asked for
abbrev pub is_one : Wanted → Bool
is_one want.One = true
is_one want.Front = false

-- no setting waits for its value; and a generated model goes neither with `one` nor with `--json`
abbrev pub is_whole : Asked → Bool
is_whole asked = is_none asked.awaited && (is_none asked.generate || (not (option_map_or is_one asked.wanted false) && not asked.json))

-- What is asked for in all. Where nothing else is given it is the front, the default scope is 3, integers go from -2048 to 2047, the
-- budget is a thousand million and the seed 0.
unfoldable pub request_of : Asked → Option Request
request_of asked =
    if is_whole asked
    then Some (record {
      wanted = option_map_or (λ w. w) asked.wanted want.Front;
      given = record {
        scopes = asked.scopes;
        default = option_map_or (λ n. n) asked.default 3;
        low = option_map_or (λ z. z) asked.low (negsuc 2047);
        high = option_map_or (λ z. z) asked.high (pos 2047);
      };
      budget = option_map_or (λ n. n) asked.budget 1000000000;
      seed = option_map_or (λ n. n) asked.seed 0;
      json = asked.json;
      generate = asked.generate;
    })
    else None

-- the request of the words; None where they have no reading
unfoldable pub reading : List (List ℕ) → Option Request
reading words = option_and_then request_of (with_words words nothing_asked)
