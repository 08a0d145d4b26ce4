-- When a relational expression has its parts in their places: a test of the expression alone.
use Rattle.std.specs.Prelude.{ℕ, ◌+◌, ◌&&◌, Bool, not, nat_lt, nat_le}
use Rattle.clf_tree.specs.Lists.{each_two}
use Rattle.clf_tree.specs.Core as c
use Rattle.clf_tree.specs.Core.{Core}
use Rattle.clf_tree.specs.CoreSoundness.{sort, is_set, is_number, is_test}

-- a number has 1 to 64 bits
abbrev pub is_width : ℕ → Bool
is_width w = nat_le 1 w && nat_le w 64

-- with n bound nodes: each form has its place, bound nodes are there, lists ascend, widths are widths, nodes are counted to 1 at most
abbrev pub is_formed : Core → ℕ → Bool
is_formed (c.Bound ks i) n = each_two nat_lt ks && nat_lt i n
is_formed (c.Every ks) n = each_two nat_lt ks
is_formed (c.Down ks a) n = each_two nat_lt ks && (is_set (sort a) && is_formed a n)
is_formed (c.Up ks a) n = each_two nat_lt ks && (is_set (sort a) && is_formed a n)
is_formed (c.Follow ks a) n = each_two nat_lt ks && (is_set (sort a) && is_formed a n)
is_formed (c.Union ks a b) n = each_two nat_lt ks && (is_set (sort a) && (is_set (sort b) && (is_formed a n && is_formed b n)))
is_formed (c.Minus ks a b) n = each_two nat_lt ks && (is_set (sort a) && (is_set (sort b) && (is_formed a n && is_formed b n)))
is_formed (c.Meet ks a b) n = each_two nat_lt ks && (is_set (sort a) && (is_set (sort b) && (is_formed a n && is_formed b n)))
is_formed (c.ChooseNodes ks t a b) n =
    each_two nat_lt ks
    && (is_test (sort t) && (is_set (sort a) && (is_set (sort b) && (is_formed t n && (is_formed a n && is_formed b n)))))
is_formed (c.Const w z) n = is_width w
is_formed (c.Count w a) n = is_width w && (is_set (sort a) && is_formed a n)
is_formed (c.Total w a) n = is_width w && (is_set (sort a) && is_formed a n)
is_formed (c.Neg w a) n = is_width w && (is_number (sort a) && is_formed a n)
is_formed (c.Add w a b) n = is_width w && (is_number (sort a) && (is_number (sort b) && (is_formed a n && is_formed b n)))
is_formed (c.Mul w a b) n = is_width w && (is_number (sort a) && (is_number (sort b) && (is_formed a n && is_formed b n)))
is_formed (c.ChooseNumber w t a b) n =
    is_width w
    && (is_test (sort t) && (is_number (sort a) && (is_number (sort b) && (is_formed t n && (is_formed a n && is_formed b n)))))
is_formed (c.Not a) n = is_test (sort a) && is_formed a n
is_formed (c.And a b) n = is_test (sort a) && (is_test (sort b) && (is_formed a n && is_formed b n))
is_formed (c.Or a b) n = is_test (sort a) && (is_test (sort b) && (is_formed a n && is_formed b n))
is_formed (c.Xor a b) n = is_test (sort a) && (is_test (sort b) && (is_formed a n && is_formed b n))
is_formed (c.ChooseTruth t a b) n =
    is_test (sort t) && (is_test (sort a) && (is_test (sort b) && (is_formed t n && (is_formed a n && is_formed b n))))
is_formed (c.SameNodes a b) n = is_set (sort a) && (is_set (sort b) && (is_formed a n && is_formed b n))
is_formed (c.WithinNodes a b) n = is_set (sort a) && (is_set (sort b) && (is_formed a n && is_formed b n))
is_formed (c.SameValues a b) n = not (is_test (sort a)) && (not (is_test (sort b)) && (is_formed a n && is_formed b n))
is_formed (c.WithinValues a b) n = not (is_test (sort a)) && (not (is_test (sort b)) && (is_formed a n && is_formed b n))
is_formed (c.Less a b) n = is_number (sort a) && (is_number (sort b) && (is_formed a n && is_formed b n))
is_formed (c.AtLeast k a) n = nat_lt k 2 && (is_set (sort a) && is_formed a n)
is_formed (c.AtMost k a) n = nat_lt k 2 && (is_set (sort a) && is_formed a n)
is_formed (c.Exactly k a) n = nat_lt k 2 && (is_set (sort a) && is_formed a n)
is_formed (c.Quant word disj names over body) n =
    is_set (sort over) && (is_test (sort body) && (is_formed over n && is_formed body (n + names)))
