-- Every demand on calls and runs, proved. Assumes nothing.
use Rattle.frame.proofs.Plainly.{plainly, zone-plainly}
use Rattle.packet.proofs.Plainly.{plainly as packet-plainly, bad-plainly}
use Rattle.history.specs.Demands.{First, Second, Third, Demands}
use Rattle.history.proofs.Refused.{every-answer, every-telling, zeros-after, every-set-up}
use Rattle.history.proofs.Sound.{every-sound, few-events}
use Rattle.history.proofs.Follows.{held-exactly}
use Rattle.history.proofs.Order.{packets-right, complete-exactly}
use Rattle.history.proofs.Blocks.{every-told, blocks-right, never-lost, kept-or-ended, event-6-exactly, logged, moment-packet}
use Rattle.history.proofs.Room.{refused-for-room-exactly, from-the-first}
use Rattle.history.proofs.Pages.{blocks-hold, files-carried}
use Rattle.history.proofs.Carried.{pages-came, no-strip}
use Rattle.history.proofs.Facts.{facts-came, tellings-refused, facts-good}
use Rattle.history.proofs.Sorted.{sorted-by-channel, files-sorted}
use Rattle.history.proofs.Freed.{held_then, frees-at-once}
use Rattle.history.proofs.LetGo.{lets_go, reports-exactly, reads-refused}
use Rattle.history.proofs.Once.{ruled-once}
use Rattle.history.proofs.Openings.{every-frame}
use Rattle.history.proofs.Channels.{every-channel-heard}
use Rattle.history.proofs.Events.{events-exactly}
use Rattle.history.proofs.Headers.{headers-read}

first : First
first =
    record {
      answers = every-answer;
      tells = every-telling;
      zeros-after = zeros-after;
      sets-up = every-set-up;
      told = every-told;
      few = few-events;
      sound = every-sound;
    }

second : Second
second =
    record {
      header = plainly;
      zone = zone-plainly;
      packet = packet-plainly;
      bad-packet = bad-plainly;
      sorted = sorted-by-channel;
      files-sorted = files-sorted;
      heard = every-channel-heard;
      frames = every-frame;
      ruled = ruled-once;
      events = events-exactly;
      complete = complete-exactly;
      reported = reports-exactly;
      in_order = λ x cs k y m. packets-right m;
      held = held-exactly;
      octets = files-carried;
      reads = reads-refused;
      pages = pages-came;
      no-strip = no-strip;
      facts = facts-came;
      untold = tellings-refused;
      facts-good = facts-good;
      headers = headers-read;
    }

third : Third
third =
    record {
      blocks = blocks-right;
      packets = moment-packet;
      from-the-first = from-the-first;
      to-its-end = never-lost;
      kept = kept-or-ended;
      frees = frees-at-once;
      held_then = held_then;
      lets_go = lets_go;
      event-6 = event-6-exactly;
      first-blocks = blocks-hold;
      room = refused-for-room-exactly;
      logged = logged;
    }

pub demands : Demands
demands = record { first = first; second = second; third = third }
