use Rattle.clause_encoder.proofs.Says.{not_says, and_says, or_says, xor_says, choose_says, on_ok}
use Rattle.clause_encoder.proofs.encode.define.Goals as goal

pub returns-in_ok-say-in-Not : goal.returns-in_ok-say-in-Not
returns-in_ok-say-in-Not c = on_ok _ _ _ (not_says _ _ _ _ _ c.in-Not.a _ _ c.in-Not.is c.literals_of.ensures c.literals_of-in-Not.ensures c.in_ok-say-in-Not.ensures) c.say-in-Not.ensures

pub returns-in_ok-say-in-And-2 : goal.returns-in_ok-say-in-And-2
returns-in_ok-say-in-And-2 c = on_ok _ _ _ (and_says _ _ _ _ _ _ c.in-And.a c.in-And.b _ _ _ c.in-And.is c.literals_of.ensures c.literals_of-in-And.ensures c.literals_of-in-And-2.ensures c.in_ok-say-in-And.ensures c.in_ok-say-in-And-2.ensures) c.say-in-And-3.ensures

pub returns-in_ok-say-in-Or-2 : goal.returns-in_ok-say-in-Or-2
returns-in_ok-say-in-Or-2 c = on_ok _ _ _ (or_says _ _ _ _ _ _ c.in-Or.a c.in-Or.b _ _ _ c.in-Or.is c.literals_of.ensures c.literals_of-in-Or.ensures c.literals_of-in-Or-2.ensures c.in_ok-say-in-Or.ensures c.in_ok-say-in-Or-2.ensures) c.say-in-Or-3.ensures

pub returns-in_ok-say-in-Xor-3 : goal.returns-in_ok-say-in-Xor-3
returns-in_ok-say-in-Xor-3 c = on_ok _ _ _ (xor_says _ _ _ _ _ _ _ c.in-Xor.a c.in-Xor.b _ _ _ c.in-Xor.is c.literals_of.ensures c.literals_of-in-Xor.ensures c.literals_of-in-Xor-2.ensures c.in_ok-say-in-Xor.ensures c.in_ok-say-in-Xor-2.ensures c.in_ok-say-in-Xor-3.ensures) c.say-in-Xor-4.ensures

pub returns-in_ok-say-in-Choose-3 : goal.returns-in_ok-say-in-Choose-3
returns-in_ok-say-in-Choose-3 c = on_ok _ _ _ (choose_says _ _ _ _ _ _ _ c.in-Choose.pick c.in-Choose.yes c.in-Choose.no _ _ _ _ c.in-Choose.is c.literals_of.ensures c.literals_of-in-Choose.ensures c.literals_of-in-Choose-2.ensures c.literals_of-in-Choose-3.ensures c.in_ok-say-in-Choose.ensures c.in_ok-say-in-Choose-2.ensures c.in_ok-say-in-Choose-3.ensures) c.say-in-Choose-4.ensures
