use Rattle.std.proofs.Common.{Some, length, ap, sym, ◌∙◌, ◌≡◌, ◌+◌, ◌<◌, arith}
use Rattle.std.specs.Prelude.{is_some, bytes_eq}
use Rattle.clf_tree.specs.declared.model.Clafer.{Clafer}
use Rattle.scope_table.specs.Paths.{named_by, path_of, given_to}
use Rattle.scope_table.specs.Refusals.{refused, nowhere}
use Rattle.scope_table.proofs.Firsts.{found_below, got}
use Rattle.scope_table.proofs.Tables.{abstract_refused, again_refused, large_refused, not_refused, is_none_of, above, not_above}
use Rattle.scope_table.proofs.given.clafer_of.Goals as goal

pub bounds-clafers-clafer : goal.bounds-clafers-clafer
bounds-clafers-clafer c =
    let clafers = c.args.clafers.now in
    let a = c.in-Some.clafer in
    let own : named_by clafers c.args.given.now.path ≡ Some a = ap (named_by clafers) (sym c.as_slice.ensures) ∙ sym c.named_by.ensures ∙ c.in-Some.is in
    let zero_more : 0 + length clafers ≡ length clafers = omega arith in
    let lt : a < length clafers = rw zero_more at (found_below (λ x. bytes_eq c.args.given.now.path (path_of clafers x)) 0 (length clafers) a own) in
    lt

pub bounds-clafers-clafer-in-Some : goal.bounds-clafers-clafer-in-Some
bounds-clafers-clafer-in-Some c =
    let clafers = c.args.clafers.now in
    let a = c.in-Some.clafer in
    let own : named_by clafers c.args.given.now.path ≡ Some a = ap (named_by clafers) (sym c.as_slice.ensures) ∙ sym c.named_by.ensures ∙ c.in-Some.is in
    let zero_more : 0 + length clafers ≡ length clafers = omega arith in
    let lt : a < length clafers = rw zero_more at (found_below (λ x. bytes_eq c.args.given.now.path (path_of clafers x)) 0 (length clafers) a own) in
    lt

pub bounds-table-clafer : goal.bounds-table-clafer
bounds-table-clafer c =
    let clafers = c.args.clafers.now in
    let a = c.in-Some.clafer in
    let own : named_by clafers c.args.given.now.path ≡ Some a = ap (named_by clafers) (sym c.as_slice.ensures) ∙ sym c.named_by.ensures ∙ c.in-Some.is in
    let zero_more : 0 + length clafers ≡ length clafers = omega arith in
    let lt : a < length clafers = rw zero_more at (found_below (λ x. bytes_eq c.args.given.now.path (path_of clafers x)) 0 (length clafers) a own) in
    rw c.requires.long lt

pub returns-then-clafers-clafer : goal.returns-then-clafers-clafer
returns-then-clafers-clafer c = λ before long known.
    let clafers = c.args.clafers.now in
    let a = c.in-Some.clafer in
    let own : named_by clafers c.args.given.now.path ≡ Some a = ap (named_by clafers) (sym c.as_slice.ensures) ∙ sym c.named_by.ensures ∙ c.in-Some.is in
    let zero_more : 0 + length clafers ≡ length clafers = omega arith in
    let lt : a < length clafers = rw zero_more at (found_below (λ x. bytes_eq c.args.given.now.path (path_of clafers x)) 0 (length clafers) a own) in
    let found = got clafers a c.index-clafers-clafer.result c.index-clafers-clafer.result lt c.index-clafers-clafer.is in
    abstract_refused clafers before c.args.given.now a c.index-clafers-clafer.result own found (ap (λ (x : Clafer). x.is_abstract) c.index-clafers-clafer.is ∙ c.if-clafers-clafer.true) ∙ ap Some (ap (λ n. refused 81 nowhere (n + 1)) long ∙ sym c.refused_at_all-then-clafers-clafer.ensures)

pub returns-then-is_some : goal.returns-then-is_some
returns-then-is_some c = λ before long known.
    let clafers = c.args.clafers.now in
    let a = c.in-Some.clafer in
    let own : named_by clafers c.args.given.now.path ≡ Some a = ap (named_by clafers) (sym c.as_slice.ensures) ∙ sym c.named_by.ensures ∙ c.in-Some.is in
    let zero_more : 0 + length clafers ≡ length clafers = omega arith in
    let lt : a < length clafers = rw zero_more at (found_below (λ x. bytes_eq c.args.given.now.path (path_of clafers x)) 0 (length clafers) a own) in
    let found = got clafers a c.index-clafers-clafer.result c.index-clafers-clafer.result lt c.index-clafers-clafer.is in
    again_refused clafers before c.args.given.now a c.index-clafers-clafer.result own found (ap (λ (x : Clafer). x.is_abstract) c.index-clafers-clafer.is ∙ c.if-clafers-clafer.false) (ap is_some (sym (known a)) ∙ sym c.is_some.ensures ∙ c.if-is_some.true) ∙ ap Some (ap (λ n. refused 82 nowhere (n + 1)) long ∙ sym c.refused_at_all-then-is_some.ensures)

pub returns-then-given-gt256 : goal.returns-then-given-gt256
returns-then-given-gt256 c = λ before long known.
    let clafers = c.args.clafers.now in
    let a = c.in-Some.clafer in
    let own : named_by clafers c.args.given.now.path ≡ Some a = ap (named_by clafers) (sym c.as_slice.ensures) ∙ sym c.named_by.ensures ∙ c.in-Some.is in
    let zero_more : 0 + length clafers ≡ length clafers = omega arith in
    let lt : a < length clafers = rw zero_more at (found_below (λ x. bytes_eq c.args.given.now.path (path_of clafers x)) 0 (length clafers) a own) in
    let found = got clafers a c.index-clafers-clafer.result c.index-clafers-clafer.result lt c.index-clafers-clafer.is in
    large_refused clafers before c.args.given.now a c.index-clafers-clafer.result own found (ap (λ (x : Clafer). x.is_abstract) c.index-clafers-clafer.is ∙ c.if-clafers-clafer.false) (ap is_some (sym (known a)) ∙ sym c.is_some.ensures ∙ c.if-is_some.false) (above c.args.given.now.most c.if-given-gt256.true) ∙ ap Some (sym c.refused_at_all-then-given-gt256.ensures)

pub returns : goal.returns
returns c = λ before long known.
    let clafers = c.args.clafers.now in
    let a = c.in-Some.clafer in
    let own : named_by clafers c.args.given.now.path ≡ Some a = ap (named_by clafers) (sym c.as_slice.ensures) ∙ sym c.named_by.ensures ∙ c.in-Some.is in
    let zero_more : 0 + length clafers ≡ length clafers = omega arith in
    let lt : a < length clafers = rw zero_more at (found_below (λ x. bytes_eq c.args.given.now.path (path_of clafers x)) 0 (length clafers) a own) in
    let found = got clafers a c.index-clafers-clafer.result c.index-clafers-clafer.result lt c.index-clafers-clafer.is in (
      not_refused clafers before c.args.given.now a c.index-clafers-clafer.result own found (ap (λ (x : Clafer). x.is_abstract) c.index-clafers-clafer.is ∙ c.if-clafers-clafer.false) (ap is_some (sym (known a)) ∙ sym c.is_some.ensures ∙ c.if-is_some.false) (not_above c.args.given.now.most c.if-given-gt256.false),
      own,
      lt,
      is_none_of (given_to clafers before a) (ap is_some (sym (known a)) ∙ sym c.is_some.ensures ∙ c.if-is_some.false),
    )
