use Rattle.std.proofs.Common.{refl}
use Rattle.records.specs.Records.{record_at}
use Rattle.turns.proofs.MeetingLaws.{giving, choosing, unmet, other_first, other_second, give_not_second, choose_not_second, take_not_first, offer_not_first, exchanged_first, exchanged_second}
use Rattle.turns.proofs.meeting.exchange.Goals as goal

pub give_to-requires : goal.give_to-requires
give_to-requires c = record {
  first = c.requires.first;
  second = c.requires.second;
  gives = giving c.args.rows.now.words.now (record_at c.args.processes.now c.args.i).place (record_at c.args.processes.now c.args.i).place c.in-Give.conversation c.in-Give.value c.args.what refl c.requires.doing.is c.in-Give.is c.requires.doing.words;
}

pub choose_at-requires : goal.choose_at-requires
choose_at-requires c = record {
  first = c.requires.first;
  second = c.requires.second;
  chooses = choosing c.args.rows.now.words.now (record_at c.args.processes.now c.args.i).place (record_at c.args.processes.now c.args.i).place c.in-Choose.conversation c.in-Choose.way c.in-Choose.next c.args.what refl c.requires.doing.is c.in-Choose.is c.requires.doing.words;
}

pub returns-in-Give : goal.returns-in-Give
returns-in-Give c =
    exchanged_first c.args.rows.now.words.now c.args.rows.now.map.now.second c.args.processes.now c.give_to.new.processes c.args.i c.args.j c.give_to.result (c.give_to.ensures c.args.rows.now.map.now.second)
    (give_not_second c.args.rows.now.words.now (record_at c.args.processes.now c.args.j).place (record_at c.args.processes.now c.args.i).place c.args.what c.in-Give.conversation c.in-Give.value c.requires.doing.is c.in-Give.is)

pub returns-in-Take : goal.returns-in-Take
returns-in-Take c =
    exchanged_second c.args.rows.now.words.now c.args.rows.now.map.now.second c.args.processes.now c.take_from.new.processes c.args.i c.args.j c.take_from.result (c.take_from.ensures c.args.rows.now.map.now.second)
    (take_not_first c.args.rows.now.words.now (record_at c.args.processes.now c.args.i).place (record_at c.args.processes.now c.args.j).place c.args.what c.in-Take.conversation c.in-Take.variable c.in-Take.next c.requires.doing.is c.in-Take.is)

pub returns-in-Choose : goal.returns-in-Choose
returns-in-Choose c =
    exchanged_first c.args.rows.now.words.now c.args.rows.now.map.now.second c.args.processes.now c.choose_at.new.processes c.args.i c.args.j c.choose_at.result c.choose_at.ensures
    (choose_not_second c.args.rows.now.words.now (record_at c.args.processes.now c.args.j).place (record_at c.args.processes.now c.args.i).place c.args.what c.in-Choose.conversation c.in-Choose.way c.in-Choose.next c.requires.doing.is c.in-Choose.is)

pub returns-in-Offer : goal.returns-in-Offer
returns-in-Offer c =
    exchanged_second c.args.rows.now.words.now c.args.rows.now.map.now.second c.args.processes.now c.offer_to.new.processes c.args.i c.args.j c.offer_to.result c.offer_to.ensures
    (offer_not_first c.args.rows.now.words.now (record_at c.args.processes.now c.args.i).place (record_at c.args.processes.now c.args.j).place c.args.what c.in-Offer.conversation c.in-Offer.first c.requires.doing.is c.in-Offer.is)

pub returns-in_default : goal.returns-in_default
returns-in_default c = (
  unmet c.args.rows.now.words.now c.args.rows.now.map.now.second c.args.processes.now _ c.args.i c.args.j refl
      (other_first c.args.rows.now.words.now (record_at c.args.processes.now c.args.i).place (record_at c.args.processes.now c.args.j).place c.args.what c.requires.doing.is c.in_default.not-Give c.in_default.not-Choose),
  unmet c.args.rows.now.words.now c.args.rows.now.map.now.second c.args.processes.now _ c.args.j c.args.i refl
      (other_second c.args.rows.now.words.now (record_at c.args.processes.now c.args.j).place (record_at c.args.processes.now c.args.i).place c.args.what c.requires.doing.is c.in_default.not-Take c.in_default.not-Offer),
)
