use Rattle.std.proofs.Common.{◌<◌, length, arith, refl}
use Rattle.cdcl_search.proofs.Row_steps.{pushed_last}
use Rattle.cdcl_search.proofs.Add_steps.{more_push, more_chain}
use Rattle.cdcl_search.proofs.watches.Watches.add.Goals as goal

pub returns-clause-keeps : goal.returns-clause-keeps
returns-clause-keeps c =
    let p = more_push c.args.self.now.lists c.push.new.self c.args.first c.args.clause c.requires.first c.in_ok-push.ensures.pushed in
    let q = more_push c.push.new.self c.push-2.new.self c.args.second c.args.clause (omega (arith, p.len, c.requires.second)) c.in_ok-push-2.ensures.pushed in
    record { firsts = c.in_ok-put.ensures.front; seconds = c.in_ok-put-2.ensures.front; lists = more_chain c.args.self.now.lists c.push.new.self c.push-2.new.self p q; short = λ i s. s; done = refl }

pub returns-clause-added : goal.returns-clause-added
returns-clause-added c =
    let p = more_push c.args.self.now.lists c.push.new.self c.args.first c.args.clause c.requires.first c.in_ok-push.ensures.pushed in
    let b : c.args.second < length c.push.new.self = omega (arith, p.len, c.requires.second) in
    let q = more_push c.push.new.self c.push-2.new.self c.args.second c.args.clause b c.in_ok-push-2.ensures.pushed in
    record {
      firsts_len = c.in_ok-put.ensures.more;
      seconds_len = c.in_ok-put-2.ensures.more;
      first = c.in_ok-put.ensures.last;
      second = c.in_ok-put-2.ensures.last;
      in_first = q.keeps c.args.first c.args.clause (rw c.in_ok-push.ensures.pushed (pushed_last c.args.self.now.lists c.args.first c.args.clause c.requires.first));
      in_second = rw c.in_ok-push-2.ensures.pushed (pushed_last c.push.new.self c.args.second c.args.clause b);
    }
